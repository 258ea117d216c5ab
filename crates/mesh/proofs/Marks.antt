-- Every mark has a lawful word, and no two have the same.
use Rattle.std.proofs.Common.{◌≡◌, ◌≤◌, refl, ap, inl, inr, arith}
use mathlib.Core.HLevel.{is_prop→PathP}
use native.Mathlib.Bridge.{le_prop}
use Rattle.mesh.specs.declared.mark.Mark.{Mark}
use Rattle.mesh.specs.declared.mark.Mark.TheVariants.{Smooth, SemiSharp, Infinite}
use Rattle.mesh.specs.declared.mark.Sharpness.{Sharpness}
use Rattle.mesh.specs.Marks.{MarkWord, word_of, MarksAreWords}

same_sharpness : (s t : Sharpness) → s.value ≡ t.value → s ≡ t
same_sharpness s t e = λ i. record {
  value = e i;
  some = is_prop→PathP (λ j. 1 ≤ e j) (λ j. le_prop) s.some t.some i;
  most = is_prop→PathP (λ j. e j ≤ 4096) (λ j. le_prop) s.most t.most i;
}

lawful : (a : Mark) → MarkWord (word_of a)
lawful Smooth = inl (omega arith)
lawful (SemiSharp s) = inl s.most
lawful Infinite = inr refl

same : (a b : Mark) → word_of a ≡ word_of b → a ≡ b
same Smooth Smooth e = refl
same Smooth (SemiSharp t) e = let h = t.some in absurd (omega arith)
same Smooth Infinite e = absurd (omega arith)
same (SemiSharp s) Smooth e = let h = s.some in absurd (omega arith)
same (SemiSharp s) (SemiSharp t) e = ap SemiSharp (same_sharpness s t e)
same (SemiSharp s) Infinite e = let h = s.most in absurd (omega arith)
same Infinite Smooth e = absurd (omega arith)
same Infinite (SemiSharp t) e = let h = t.most in absurd (omega arith)
same Infinite Infinite e = refl

pub marks_are_words : MarksAreWords
marks_are_words = (lawful, same)
