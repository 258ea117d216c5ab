use Rattle.std.proofs.Common.{◌≡◌, ℕ, ◌+◌, ◌<◌, ◌≤◌, Bool, List, length, get_or, take, sym, ap, ◌∙◌, subst, arith, rules}
use Rattle.std.proofs.lemmas.List.{length-take-le, take_all}
use Rattle.inspect.specs.Marks.{how_many, one_if, is_smooth, is_semi_sharp, is_infinite, is_no_mark, Tallies}
use Rattle.inspect.proofs.HowMany.{how_many_le, how_many_more}
use Rattle.inspect.proofs.tally.count.Goals as goal

pub loop-word-init : goal.loop-word-init
unfolding how_many
loop-word-init c =
    let d = c.default-tally.ensures in
    record { smooth_are = search rules; semi_sharp_are = search rules; infinite_are = search rules; no_marks_are = search rules }

few : (test : ℕ → Bool) (ws : List ℕ) (i n : ℕ) → i < length ws → n ≡ how_many test (take i ws) → n ≤ i
few test ws i n h e = let l = length-take-le i ws (omega arith) in let m = how_many_le test (take i ws) in omega arith

pub add-requires : goal.add-requires
add-requires c =
    let ws = c.args.words.now in
    let i = c.loop-word.word-index in
    let t = c.loop-word.invariant in
    let s = few is_smooth ws i c.loop-word.tally.smooth (omega arith) t.smooth_are in
    let h = few is_semi_sharp ws i c.loop-word.tally.semi_sharp (omega arith) t.semi_sharp_are in
    let f = few is_infinite ws i c.loop-word.tally.infinite (omega arith) t.infinite_are in
    let n = few is_no_mark ws i c.loop-word.tally.no_mark (omega arith) t.no_marks_are in
    record { smooth = omega arith; semi_sharp = omega arith; infinite = omega arith; no_mark = omega arith }

more : (test : ℕ → Bool) (ws : List ℕ) (i n m : ℕ) → i < length ws → n ≡ how_many test (take i ws) → m ≡ one_if (test (get_or ws i 0)) n → m ≡ how_many test (take (i + 1) ws)
more test ws i n m h e f = f ∙ ap (one_if (test (get_or ws i 0))) e ∙ sym (how_many_more test ws i h)

pub loop-word-preserved : goal.loop-word-preserved
loop-word-preserved c =
    let ws = c.args.words.now in
    let i = c.loop-word.word-index in
    let t = c.loop-word.invariant in
    let a = c.add.ensures in
    record {
      smooth_are = more is_smooth ws i _ _ (omega arith) t.smooth_are a.smooth_adds;
      semi_sharp_are = more is_semi_sharp ws i _ _ (omega arith) t.semi_sharp_are a.semi_sharp_adds;
      infinite_are = more is_infinite ws i _ _ (omega arith) t.infinite_are a.infinite_adds;
      no_marks_are = more is_no_mark ws i _ _ (omega arith) t.no_marks_are a.no_mark_adds;
    }

pub returns : goal.returns
returns c =
    let P : List ℕ → Type 0 = λ ws. Tallies ws c.loop-word.tally in
    subst P (take_all c.loop-word.word-index c.args.words.now (omega arith)) c.loop-word.invariant
