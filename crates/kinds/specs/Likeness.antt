-- A likeness of values that can stand in the place of equality, as where the numbers 0 and -0 count as equal.

-- an equivalence that the middle respects, and under which it is even-handed
pub record Likeness {V : Type 0} (like : V → V → Type 0) (middle : V → V → V) : Type 0 where
  pub itself : (a : V) → like a a
  pub back : (a b : V) → like a b → like b a
  pub through : (a b c : V) → like a b → like b c → like a c
  pub middles : (a b c d : V) → like a b → like c d → like (middle a c) (middle b d)
  pub even : (a b : V) → like (middle a b) (middle b a)
