-- The bytes of a code before its operands: the code byte, then its numbers.
use Rattle.std.specs.Prelude.{List, ◌∷◌, map, ℕ}
use Rattle.logic.specs.Syntax.{Sort}
use Rattle.logic.specs.Arity.{Nullary, all·, none·, label·, nominal·, arrow_kind·, pair·, Unary, complement·, reversed·, node_in·, pair_in·, not_rule·, Binary, and·, or·, some·, every·, at_least·, at_most·, union·, common·, minus·, ending_in·, sub_nodes·, sub_arrows·, both·, either·, numbers0, numbers1, numbers2}

abbrev pub byte0 : {s : Sort} → Nullary s → ℕ
byte0 all· = 0x01
byte0 none· = 0x02
byte0 (label· k) = 0x03
byte0 (nominal· i) = 0x04
byte0 (arrow_kind· a) = 0x11
byte0 (pair· i j) = 0x17

abbrev pub byte1 : {u t : Sort} → Unary u t → ℕ
byte1 complement· = 0x05
byte1 reversed· = 0x12
byte1 (node_in· i) = 0x23
byte1 (pair_in· i j) = 0x24
byte1 not_rule· = 0x27

abbrev pub byte2 : {u v t : Sort} → Binary u v t → ℕ
byte2 and· = 0x06
byte2 or· = 0x07
byte2 some· = 0x08
byte2 every· = 0x09
byte2 (at_least· m) = 0x0A
byte2 (at_most· m) = 0x0B
byte2 union· = 0x13
byte2 common· = 0x14
byte2 minus· = 0x15
byte2 ending_in· = 0x16
byte2 sub_nodes· = 0x21
byte2 sub_arrows· = 0x22
byte2 both· = 0x25
byte2 either· = 0x26

unfoldable pub head0 : {s : Sort} → Nullary s → List ℕ
head0 b = byte0 b ∷ map (λ n. n.1) (numbers0 b)

unfoldable pub head1 : {u t : Sort} → Unary u t → List ℕ
head1 b = byte1 b ∷ map (λ n. n.1) (numbers1 b)

unfoldable pub head2 : {u v t : Sort} → Binary u v t → List ℕ
head2 b = byte2 b ∷ map (λ n. n.1) (numbers2 b)
