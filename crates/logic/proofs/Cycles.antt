-- A function in a cycle of calls, with a number as its measure: the arguments with which the measure is t, and those with which it is below t.
use mathlib.Core.List.{List}
use Prim.Native.Nat.{ℕ, ◌<◌}
use borrow.Fn.Kind.{ParamKind}
use borrow.Fn.Kinds.{In}
use borrow.Fn.PlainCycle.{Measures, is, falls, and}

module _ (n : ℕ) (ps : List (ParamKind n)) (μ : Measures n ps ℕ) (pre : In n ps) where
  abbrev pub at-measure : ℕ → In n ps
  at-measure t = and n ps (is n ps μ t) pre

  abbrev pub below-measure : ℕ → In n ps
  below-measure t = and n ps (falls n ps ◌<◌ μ t) pre
