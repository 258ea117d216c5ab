-- The mark of an edge, and the word that a table keeps of it.
use Rattle.std.specs.Prelude.{◌≡◌, ℕ, ◌≤◌, ◌⊎◌, Result, MatchResult}
use Rattle.mesh.specs.declared.mark.Mark.{Mark}
use Rattle.mesh.specs.declared.mark.Mark.TheVariants.{Smooth, SemiSharp, Infinite}
use Rattle.mesh.specs.declared.mark.NotSemiSharp.{NotSemiSharp}
use Rattle.mesh.specs.declared.mark.Sharpness.{Sharpness}
use Rattle.mesh.specs.declared.mark.UnknownMark.{UnknownMark}

-- the word of the sharpest semi-sharp mark, and that of an infinite mark
abbrev pub sharpest : ℕ
sharpest = 4096

abbrev pub infinite : ℕ
infinite = 65535

-- a number of 256ths that a semi-sharp edge can have
abbrev pub IsSemiSharp : ℕ → Type 0
IsSemiSharp n = (1 ≤ n) × (n ≤ sharpest)

-- a word that stands for a mark: smooth, semi-sharp in 256ths, or infinite
abbrev pub MarkWord : ℕ → Type 0
MarkWord w = (w ≤ sharpest) ⊎ (w ≡ infinite)

abbrev pub word_of : Mark → ℕ
word_of Smooth = 0
word_of (SemiSharp s) = s.value
word_of Infinite = infinite

-- the sharpness of n 256ths, or an error that bears n where no semi-sharp edge has it
abbrev pub Measures : ℕ → Result Sharpness NotSemiSharp → Type 0
Measures n r = MatchResult r (λ s. s.value ≡ n) (λ e. (e.0 ≡ n) × (IsSemiSharp n → ⊥))

-- the mark of a word, or an error that bears the word where it stands for none
abbrev pub Decodes : ℕ → Result Mark UnknownMark → Type 0
Decodes w r = MatchResult r (λ m. word_of m ≡ w) (λ e. (e.0 ≡ w) × (MarkWord w → ⊥))

-- every mark has a lawful word, and no two have the same
abbrev pub MarksAreWords : Type 0
MarksAreWords = ((a : Mark) → MarkWord (word_of a)) × ((a b : Mark) → word_of a ≡ word_of b → a ≡ b)
