-- What reading a program's input promises. No contract can say which bytes a read finds.
use Rattle.std.specs.Prelude.{ℕ}

-- The longest text that a length of two bytes can announce.
abbrev pub text_bytes : ℕ
text_bytes = 65535
