-- What an influence's rows, ranges and blends are.
use Rattle.std.specs.Prelude.{◌≡◌, ℕ, List, [], ◌∷◌, Ok, Result, bit_or}
use Rattle.kinds.specs.Parts.{total}
use Rattle.attributes.specs.declared.influence.Influence.{Influence}
use Rattle.attributes.specs.declared.influence.InfluenceMix.{InfluenceMix}

abbrev pub of_bits : ℕ → Influence
of_bits n = record { bits = n }

abbrev pub row_of : Influence → ℕ
row_of v = v.bits

-- every row makes an influence
abbrev pub verdict_of : ℕ → Result Influence ℕ
verdict_of r = Ok (of_bits r)

-- v has no bit that the set s lacks
abbrev pub Subset : ℕ → Influence → Type 0
Subset s v = bit_or s v.bits ≡ s

abbrev pub all_bits : List (Influence × ℕ) → ℕ
all_bits [] = 0
all_bits (p ∷ ps) = bit_or p.0.bits (all_bits ps)

abbrev pub union : List (Influence × ℕ) → Influence
union ps = of_bits (all_bits ps)

-- m is the union of the parts ps, with their weight
pub record UnionOf (m : InfluenceMix) (ps : List (Influence × ℕ)) : Type 0 where
  pub bits_are : m.bits ≡ all_bits ps
  pub weight_is : m.weight.taken ≡ total ps
