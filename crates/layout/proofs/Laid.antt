-- Words laid over others, and the levels that they are.
use Rattle.std.proofs.Common.{◌≡◌, ℕ, ◌+◌, ◌-◌, ◌*◌, ◌<◌, ◌≤◌, List, ◌++◌, length, get_or, take, drop, replicate, sym, refl, ap, ◌∙◌, zero-add, arith}
use Rattle.std.proofs.lemmas.List.{length-append, length-take-le, length-drop, length-replicate, get_or_append_left, get_or-append_right, get_or-take, get_or-drop, get_or-replicate}
use Rattle.refinement.specs.Tasks.{blank}
use Rattle.layout.specs.Layout.{block, laid}
use Rattle.layout.specs.Laws.{BeginsWrite, FinishesWrite, LoadsWrite}
use Rattle.layout.proofs.Blocks.{length_block, getD_block, block_is, block_zero, level_same}

-- the words xs over ws, from word a on
module _ (ws : List ℕ) (a : ℕ) (xs : List ℕ) (fits : a + length xs ≤ length ws) where
  pub length_laid : length (laid ws a xs) ≡ length ws
  length_laid =
      let l = length-take-le a ws (omega arith) in
      let d = length-drop (a + length xs) ws in
      let e = length-append (take a ws) (xs ++ drop (a + length xs) ws) in
      let f = length-append xs (drop (a + length xs) ws) in
      omega arith

  pub laid_before : (i : ℕ) → i < a → get_or (laid ws a xs) i 0 ≡ get_or ws i 0
  laid_before i h =
      let l = length-take-le a ws (omega arith) in
      get_or_append_left (take a ws) _ 0 i (omega arith) ∙ get_or-take a ws i 0 h

  past : (i : ℕ) → get_or (laid ws a xs) (a + i) 0 ≡ get_or (xs ++ drop (a + length xs) ws) i 0
  past i =
      let l = length-take-le a ws (omega arith) in
      let e : a + i - a ≡ i = omega arith in
      get_or-append_right (take a ws) (xs ++ drop (a + length xs) ws) a (a + i) 0 l (omega arith) ∙ ap (λ k. get_or (xs ++ drop (a + length xs) ws) k 0) e

  pub laid_inside : (i : ℕ) → i < length xs → get_or (laid ws a xs) (a + i) 0 ≡ get_or xs i 0
  laid_inside i h = past i ∙ get_or_append_left xs _ 0 i h

  pub laid_after : (i : ℕ) → a + length xs ≤ i → get_or (laid ws a xs) i 0 ≡ get_or ws i 0
  laid_after i h =
      let n : ℕ = length xs in
      let k : ℕ = i - (a + n) in
      let e : a + (n + k) ≡ i = omega arith in
      let f : n + k - n ≡ k = omega arith in
      let g : a + n + k ≡ i = omega arith in
      ap (λ j. get_or (laid ws a xs) j 0) (sym e) ∙ past (n + k)
      ∙ get_or-append_right xs (drop (a + n) ws) n (n + k) 0 refl (omega arith)
      ∙ ap (λ j. get_or (drop (a + n) ws) j 0) f ∙ get_or-drop (a + n) ws k 0 ∙ ap (λ j. get_or ws j 0) g

  pub laid_block : (n : ℕ) → length xs ≡ n → block (laid ws a xs) a n ≡ xs
  laid_block n e = let l = length_laid in block_is (laid ws a xs) xs a n (omega arith) e (λ i h. laid_inside i (omega arith))

pub length_after_laid : (ws vs : List ℕ) (a : ℕ) (xs : List ℕ) → a + length xs ≤ length ws → vs ≡ laid ws a xs → length vs ≡ length ws
length_after_laid ws vs a xs h e = ap length e ∙ length_laid ws a xs h

pub begins_write : BeginsWrite
unfolding blank
begins_write F V ws room =
    let zs : List ℕ = replicate (36 * F + 2 * V) 0 in
    let vs : List ℕ = laid ws (8 * F + V) zs in
    let z : length zs ≡ 36 * F + 2 * V = length-replicate (36 * F + 2 * V) 0 in
    let fits : 8 * F + V + length zs ≤ length ws = omega arith in
    let l : length vs ≡ length ws = length_laid ws (8 * F + V) zs fits in
    let zero : (b i : ℕ) → 8 * F + V ≤ b → b + i < 44 * F + 3 * V → get_or vs (b + i) 0 ≡ 0 = λ b i h k.
    let j : ℕ = b + i - (8 * F + V) in
    let e : b + i ≡ 8 * F + V + j = omega arith in
    ap (λ x. get_or vs x 0) e ∙ laid_inside ws (8 * F + V) zs fits j (omega arith) ∙ get_or-replicate (36 * F + 2 * V) j 0 0 (omega arith) in
    let cs = block_zero vs (8 * F + V) (4 * (4 * F)) (16 * F) (omega arith) (omega arith) (λ i h. zero (8 * F + V) i (omega arith) (omega arith)) in
    let fs = block_zero vs (8 * F + V + 4 * (4 * F)) (2 * (4 * F)) (8 * F) (omega arith) (omega arith) (λ i h. zero (8 * F + V + 4 * (4 * F)) i (omega arith) (omega arith)) in
    let ms = block_zero vs (8 * F + V + 6 * (4 * F)) (2 * (4 * F)) (8 * F) (omega arith) (omega arith) (λ i h. zero (8 * F + V + 6 * (4 * F)) i (omega arith) (omega arith)) in
    let ss = block_zero vs (8 * F + V + 8 * (4 * F)) (V + 3 * F) (V + 3 * F) (omega arith) refl (λ i h. zero (8 * F + V + 8 * (4 * F)) i (omega arith) (omega arith)) in
    record {
      length_kept = l;
      standing_kept = level_same vs ws 0 0 F V (omega arith) (omega arith) (λ i h. laid_before ws (8 * F + V) zs fits (0 + i) (omega arith));
      tables_blank = λ i. record { quads = 4 * F; points = V + 3 * F; corners = cs i; friends = fs i; marks = ms i; starts = ss i };
      none_ran = block_zero vs (43 * F + 2 * V) (F + V) (F + V) (omega arith) refl (λ i h. zero (43 * F + 2 * V) i (omega arith) (omega arith));
    }

pub finishes_write : FinishesWrite
finishes_write F V ws room =
    let b : ℕ = 8 * F + V in
    let n : ℕ = 35 * F + V in
    let xs : List ℕ = block ws b n in
    let x : length xs ≡ n = length_block ws b n (omega arith) in
    let l : length (laid ws 0 xs) ≡ length ws = length_laid ws 0 xs (omega arith) in
    record {
      length_kept = l;
      standing_is = level_same (laid ws 0 xs) ws 0 b (4 * F) (V + 3 * F) (omega arith) (omega arith)
          (λ i h. laid_inside ws 0 xs (omega arith) i (omega arith) ∙ getD_block ws b n i (omega arith));
    }

pub loads_write : LoadsWrite
loads_write m ws k room =
    let F : ℕ = m.quads in
    let V : ℕ = m.points in
    let w1 : List ℕ = laid ws 0 m.corners in
    let w2 : List ℕ = laid w1 (4 * F) m.friends in
    let w3 : List ℕ = laid w2 (6 * F) m.marks in
    let w4 : List ℕ = laid w3 (8 * F) m.starts in
    let f1 : 0 + length m.corners ≤ length ws = omega arith in
    let l1 : length w1 ≡ length ws = length_laid ws 0 m.corners f1 in
    let f2 : 4 * F + length m.friends ≤ length w1 = omega arith in
    let l2 : length w2 ≡ length w1 = length_laid w1 (4 * F) m.friends f2 in
    let f3 : 6 * F + length m.marks ≤ length w2 = omega arith in
    let l3 : length w3 ≡ length w2 = length_laid w2 (6 * F) m.marks f3 in
    let f4 : 8 * F + length m.starts ≤ length w3 = omega arith in
    let l4 : length w4 ≡ length w3 = length_laid w3 (8 * F) m.starts f4 in
    let c3 : (i : ℕ) → i < 6 * F → get_or w4 i 0 ≡ get_or w2 i 0 = λ i h. laid_before w3 (8 * F) m.starts f4 i (omega arith) ∙ laid_before w2 (6 * F) m.marks f3 i (omega arith) in
    let cs = block_is w4 m.corners 0 (4 * F) (omega arith) k.corner_count
    (λ i h. c3 (0 + i) (omega arith) ∙ laid_before w1 (4 * F) m.friends f2 (0 + i) (omega arith) ∙ laid_inside ws 0 m.corners f1 i (omega arith)) in
    let fs = block_is w4 m.friends (0 + 4 * F) (2 * F) (omega arith) k.friend_count
    (λ i h. rw (zero-add (4 * F)) (c3 (4 * F + i) (omega arith) ∙ laid_inside w1 (4 * F) m.friends f2 i (omega arith))) in
    let ms = block_is w4 m.marks (0 + 6 * F) (2 * F) (omega arith) k.mark_count
    (λ i h. rw (zero-add (6 * F)) (laid_before w3 (8 * F) m.starts f4 (6 * F + i) (omega arith) ∙ laid_inside w2 (6 * F) m.marks f3 i (omega arith))) in
    let ss = block_is w4 m.starts (0 + 8 * F) V (omega arith) k.start_count
    (λ i h. rw (zero-add (8 * F)) (laid_inside w3 (8 * F) m.starts f4 i (omega arith))) in
    record {
      length_kept = l4 ∙ l3 ∙ l2 ∙ l1;
      standing_is = λ i. record { quads = F; points = V; corners = cs i; friends = fs i; marks = ms i; starts = ss i };
    }
