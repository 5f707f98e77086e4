-- The version: 1,000 times its first number, plus its second.
use Rattle.std.specs.Prelude.{ℕ}

abbrev pub version : ℕ
version = 6002
