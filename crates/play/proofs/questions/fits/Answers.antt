use Rattle.play.proofs.FitsTold.{fits-length, fits-no-room, fits_not}
use Rattle.play.proofs.questions.fits.Goals as goal

pub returns-in_default : goal.returns-in_default
returns-in_default c rules Z h g = fits-length _ _ _ _ (c.carry_into.ensures rules Z h g) _ c.in_default.is

pub returns-in-OutputLength : goal.returns-in-OutputLength
returns-in-OutputLength c rules Z h g = fits-no-room _ _ _ _ (c.carry_into.ensures rules Z h g) _ c.in-Err.is _ c.in-OutputLength.is

pub returns-in_default-refusal : goal.returns-in_default-refusal
returns-in_default-refusal c rules Z h g = fits_not _ _ _ _ (c.carry_into.ensures rules Z h g) _ c.in-Err.is c.in_default-refusal.not-OutputLength
