use Rattle.std.proofs.Common.{◌≡◌, ℕ, ◌-◌, List, [], ◌∷◌, length, get_or, take, drop, sym, ap, ◌∙◌, subst, arith}
use Rattle.std.proofs.lemmas.Bool.Decides.{Decides-eqb}
use Rattle.std.proofs.lemmas.List.{take_rest}
use Rattle.std.proofs.lemmas.Slice.Eq.{strip_prefix_is}
use Rattle.lines.specs.Kinds.{first_digit, second_digit}
use Rattle.lines.specs.Lines.{Words}
use Rattle.lines.specs.Reading.{line}
use Rattle.lines.proofs.Finds.{line_none, line_finds}
use Rattle.lines.proofs.LineWords.{carried, line_words, words_line, words_end}
use Rattle.lines.proofs.frame.read_line.Goals as goal
use Rattle.lines.proofs.frame.read_line.Goals.{then-first-a-via-then-first-a, then-first-a-via-else-first-a+then-second-b}

-- the code's `words` is `&s[2..]`
there : (s ns t : List ℕ) → Words (drop 2 s) ns t → Words (take (length s - 2) (drop 2 s)) ns t
there s ns t w = let P : List ℕ → Type 0 = λ x. Words x ns t in subst P (sym (take_rest s 2)) w

back : (s ns t : List ℕ) → Words (take (length s - 2) (drop 2 s)) ns t → Words (drop 2 s) ns t
back s ns t w = let P : List ℕ → Type 0 = λ x. Words x ns t in subst P (take_rest s 2) w

-- the digits of a kind, each by its place
first_of : (p : List ℕ) (a b : ℕ) → p ≡ a ∷ (b ∷ []) → get_or p 0 0 ≡ a
first_of p a b e = ap (λ (x : List ℕ). get_or x 0 0) e

second_of : (p : List ℕ) (a b : ℕ) → p ≡ a ∷ (b ∷ []) → get_or p 1 0 ≡ b
second_of p a b e = ap (λ (x : List ℕ). get_or x 1 0) e

pub returns-in_default : goal.returns-in_default
returns-in_default c = line_none (first_digit c.args.kind) (second_digit c.args.kind) (length c.args.out.now) c.args.s.now (λ ns t e l. let w = line_words _ _ _ ns t l in omega arith)

pub returns-then-first-a : goal.returns-then-first-a
returns-then-first-a c = line_none (first_digit c.args.kind) (second_digit c.args.kind) (length c.args.out.now) c.args.s.now (λ ns t e l.
    let w = line_words _ _ _ ns t l in
    elim c.then-first-a.branch [
      | then-first-a-via-then-first-a v ↦ v.if-first-a.true (w.1 ∙ sym (first_of c.digits.result _ _ c.digits.ensures))
      | then-first-a-via-else-first-a+then-second-b v ↦ v.if-second-b.true (w.2 ∙ sym (second_of c.digits.result _ _ c.digits.ensures))
    ])

pub returns-in_err-read_words : goal.returns-in_err-read_words
returns-in_err-read_words c =
    let s = c.args.s.now in
    rw c.from_residual.ensures (line_none (first_digit c.args.kind) (second_digit c.args.kind) (length c.args.out.now) s (λ ns t e l. c.in_err-read_words.ensures ns (10 ∷ t) e (there s ns (10 ∷ t) (line_words _ _ _ ns t l).3)))

pub returns : goal.returns
returns c =
    let s = c.args.s.now in
    let end = c.in_ok-read_words.field-0.now in
    let ms = c.read_words.new.out in
    let w = back s ms end c.in_ok-read_words.ensures in
    let k : length ms ≡ length c.args.out.now = omega arith in
    carried c.strip_prefix.result (strip_prefix_is Decides-eqb end (10 ∷ []) c.strip_prefix.result c.strip_prefix.ensures.cases)
    (λ none. line_none (first_digit c.args.kind) (second_digit c.args.kind) (length c.args.out.now) s (λ ns t e l.
    none t (words_end (drop 2 s) ms end ns (10 ∷ t) w (line_words _ _ _ ns t l).3 (omega arith)).1))
    (λ rest e.
    let P : List ℕ → Type 0 = λ x. Words (drop 2 s) ms x in
    let first = c.if-first-a.false ∙ first_of c.digits.result _ _ c.digits.ensures in
    let second = c.if-second-b.false ∙ second_of c.digits.result _ _ c.digits.ensures in
    let l = words_line (first_digit c.args.kind) (second_digit c.args.kind) s ms rest.now c.in-len2-up.len_at_least first second (subst P e w) in
    (ap (λ (n : ℕ). line (first_digit c.args.kind) (second_digit c.args.kind) n s) (sym k) ∙ line_finds _ _ _ _ _ l, l.small))
