-- What printing keeps: the codes ahead can be printed, the text so far is written, and the numbers stay small.
use mathlib.Core.Path.{◌≡◌, sym, ◌∙◌, ap, ap₂}
use mathlib.Core.List.{List, ◌++◌, append_assoc}
use Prim.Native.Nat.{ℕ, ◌+◌, ◌*◌, ◌-◌, ◌≤◌, ◌<◌}
use native.Mathlib.Nat.{zero-add}
use native.Mathlib.Omega.{arith}
use lib.ListN.{length, drop, length-append}
use Rattle.names.specs.Token.{Token}
use Rattle.names.specs.Names.{Naming}
use Rattle.notation.specs.Grammar.{Goal}
use Rattle.notation.specs.Spell.{spell}
use Rattle.notation.specs.Words.{rule_limits}
use Rattle.lay_words.specs.declared.Laid.{Laid}
use Rattle.buffers.specs.Slots.{Slots}
use Rattle.buffers.specs.Filled.{filled_from}
use Rattle.name_table.specs.NameSlots.{name_width, name_count, Holds}
use Rattle.print_words.specs.Printable.{Printable}
use Rattle.lay_words.specs.Laying.{laid_from}
use Rattle.print_words.specs.Added.{Room, Added}
use Rattle.print_words.specs.Printed.{printed}
use Rattle.print_words.proofs.AddedLaws.{own, own_held}
use Rattle.buffers.proofs.FilledLaws.{filled_more}

-- How many tokens are ahead at most: each goal is a token, and a code becomes at most a word and eight goals.
unfoldable pub ahead : (codes at goals left : ℕ) → ℕ
ahead codes at goals left = 10 * (codes - at) + (goals + 2 * left)

-- With n tokens ahead, the text so far is short: 164,000 tokens in all, with at most 400,000 bytes each.
pub record Short (s : Laid) (n : ℕ) : Type 0 where
  pub size : s.size + 400000 * n ≤ 400000 * 164000
  pub brackets : s.brackets + n ≤ 164000
  pub ifs : s.ifs + n ≤ 164000

pub short-room : (s : Laid) (n : ℕ) → Short s n → Room s
short-room s n h = record { sizes = omega (arith, h.size, h.ifs); brackets = omega (arith, h.brackets); ifs = omega (arith, h.ifs) }

pub short-less : (s : Laid) (n m : ℕ) → m ≤ n → Short s n → Short s m
short-less s n m l h = record { size = omega (arith, h.size); brackets = omega (arith, h.brackets); ifs = omega (arith, h.ifs) }

short-added : {s r : Laid} {ts : List Token} {o o' : List ℕ} (n m : ℕ) → m < n → Short s n → Added s ts r o o' → Short r m
short-added n m l h a =
    record { size = omega (arith, h.size, h.ifs, a.size, a.short); brackets = omega (arith, h.brackets, a.brackets_most); ifs = omega (arith, h.ifs, a.ifs_most) }

-- The text so far, and that of the tokens ahead.
pub record SoFar (text : List ℕ) (o₀ : List ℕ) (s : Laid) (ts : List Token) (o : List ℕ) : Type 0 where
  pub bytes : List ℕ
  pub text-is : text ≡ bytes ++ laid_from s ts
  pub size : s.size ≡ length bytes
  pub written : o ≡ filled_from 0 bytes o₀

added-so-far : {text o₀ : List ℕ} {s r : Laid} {ts us vs : List Token} {o o' : List ℕ} → us ≡ ts ++ vs → SoFar text o₀ s us o → Added s ts r o o' → SoFar text o₀ r vs o'
added-so-far {text} {o₀} {s} {r} {ts} {us} {vs} {o} {o'} e h a = record {
  bytes = h.bytes ++ a.bytes;
  text-is = h.text-is ∙ ap (λ l. h.bytes ++ laid_from s l) e ∙ ap (λ l. h.bytes ++ l) (a.lays vs) ∙ sym (append_assoc h.bytes a.bytes (laid_from r vs));
  size = a.size ∙ ap (◌+ length a.bytes) h.size ∙ sym (length-append h.bytes a.bytes);
  written = a.written ∙ ap₂ (λ n l. filled_from n a.bytes l) (h.size ∙ sym (zero-add (length h.bytes))) h.written ∙ filled_more 0 h.bytes a.bytes o₀;
}

module _ (table codes : List ℕ) (start rules : ℕ) (o₀ : List ℕ) where
  pub record Printing (at : ℕ) (g : List Goal) (left : ℕ) (s : Laid) (o : List ℕ) : Type 0 where
    pub printable : Printable rule_limits (drop at codes) g left
    pub so_far : (name : Naming) → Holds table name → SoFar (printed name codes start rules) o₀ s (spell name (drop at codes) g left) o
    pub short : Short s (ahead (length codes) at (length g) left)

  -- Tokens are added.
  module _ (slots : Slots name_width name_count table) {at at' left left' : ℕ} {g g' : List Goal} {s r : Laid} {o o' : List ℕ} where
    pub printing-on : Printing at g left s o → Printable rule_limits (drop at' codes) g' left' → (ts : Naming → List Token)
        → ((name : Naming) → spell name (drop at codes) g left ≡ ts name ++ spell name (drop at' codes) g' left')
        → ((name : Naming) → Holds table name → Added s (ts name) r o o')
        → ahead (length codes) at' (length g') left' < ahead (length codes) at (length g) left
        → Printing at' g' left' r o'
    printing-on h p ts e a l = record {
      printable = p;
      so_far = λ name held. added-so-far (e name) (h.so_far name held) (a name held);
      short = short-added (ahead (length codes) at (length g) left) (ahead (length codes) at' (length g') left') l h.short (a (own table) (own_held table slots));
    }
