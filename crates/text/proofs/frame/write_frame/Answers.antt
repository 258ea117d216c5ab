use Rattle.std.proofs.Common.{◌≡◌, ℕ, [], ◌∷◌, length, refl, ap, ◌∙◌, arith}
use Rattle.lines.specs.Text.{line_text}
use Rattle.text.specs.Writes.{frame_text}
use Rattle.text.proofs.Writes.{length_line}
use Rattle.text.proofs.frame.write_frame.Goals as goal

-- the frame by the words that the code has
framed : (n p n' p' : ℕ) → n ≡ n' → p ≡ p' → length (line_text 102 102 (n ∷ (p ∷ []))) ≡ length (frame_text n' p')
framed n p n' p' e f = ap (λ (x : ℕ). length (line_text 102 102 (x ∷ (p ∷ [])))) e ∙ ap (λ (x : ℕ). length (line_text 102 102 (n' ∷ (x ∷ [])))) f

pub returns-then-out-words_size : goal.returns-then-out-words_size
returns-then-out-words_size c =
    let l = length_line 102 102 (c.from.result ∷ (c.place.result ∷ [])) in
    let s = c.words_size.ensures.is in
    let f = framed _ _ _ _ (c.from.ensures ∙ c.number.ensures) c.place.ensures in
    (refl, omega arith, refl)

pub put_line-requires : goal.put_line-requires
put_line-requires c =
    let l = length_line 102 102 (c.from.result ∷ (c.place.result ∷ [])) in
    let s = c.words_size.ensures.is in
    omega arith
