-- Blocks of words, and what writes do to them.
use Rattle.std.proofs.Common.{◌≡◌, ℕ, ◌+◌, ◌-◌, ◌*◌, ◌<◌, ◌≤◌, ◌⊎◌, List, [], ◌∷◌, length, get_or, take, drop, set, replicate, sym, refl, ap, ◌∙◌, inl, inr, arith}
use Rattle.std.specs.List.{AllByRecursion}
use Rattle.std.proofs.lemmas.List.{length-take-le, length-drop, length-replicate, get_or-take, get_or-drop, get_or-replicate, ext_get_or, drop-set-lt, drop-set-add, take-set-le}
use lib.Seq.{take-set-lt}
use Rattle.refinement.specs.Tasks.{put}
use Rattle.layout.specs.Layout.{block, level_at, shifted}

pub length_block : (ws : List ℕ) (a n : ℕ) → a + n ≤ length ws → length (block ws a n) ≡ n
length_block ws a n h = length-take-le n (drop a ws) (let e : length (drop a ws) ≡ length ws - a = length-drop a ws in omega arith)

pub getD_block : (ws : List ℕ) (a n i : ℕ) → i < n → get_or (block ws a n) i 0 ≡ get_or ws (a + i) 0
getD_block ws a n i h = get_or-take n (drop a ws) i 0 h ∙ get_or-drop a ws i 0

-- a block is a list, word for word
pub block_is : (ws xs : List ℕ) (a n : ℕ) → a + n ≤ length ws → length xs ≡ n → ((i : ℕ) → i < n → get_or ws (a + i) 0 ≡ get_or xs i 0) → block ws a n ≡ xs
block_is ws xs a n h e f =
    let l = length_block ws a n h in
    ext_get_or 0 _ _ (l ∙ sym e) (λ i k. getD_block ws a n i (omega arith) ∙ f i (omega arith))

pub block_same : (vs ws : List ℕ) (b a n : ℕ) → b + n ≤ length vs → a + n ≤ length ws → ((i : ℕ) → i < n → get_or vs (b + i) 0 ≡ get_or ws (a + i) 0) → block vs b n ≡ block ws a n
block_same vs ws b a n h k f = block_is vs (block ws a n) b n h (length_block ws a n k) (λ i l. f i l ∙ sym (getD_block ws a n i l))

pub block_zero : (ws : List ℕ) (a n k : ℕ) → a + n ≤ length ws → n ≡ k → ((i : ℕ) → i < n → get_or ws (a + i) 0 ≡ 0) → block ws a n ≡ replicate k 0
block_zero ws a n k h e f =
    block_is ws (replicate k 0) a n h (length-replicate k 0 ∙ sym e) (λ i l. f i l ∙ sym (get_or-replicate k i 0 0 (omega arith)))

-- so is a level
pub level_same : (vs ws : List ℕ) (b a F V : ℕ) → b + (8 * F + V) ≤ length vs → a + (8 * F + V) ≤ length ws →
    ((i : ℕ) → i < 8 * F + V → get_or vs (b + i) 0 ≡ get_or ws (a + i) 0) → level_at vs b F V ≡ level_at ws a F V
level_same vs ws b a F V h k f =
    let part : (d n : ℕ) → d + n ≤ 8 * F + V → block vs (b + d) n ≡ block ws (a + d) n = λ d n l.
    block_same vs ws (b + d) (a + d) n (omega arith) (omega arith) (λ i m.
    let p : b + d + i ≡ b + (d + i) = omega arith in
    let q : a + (d + i) ≡ a + d + i = omega arith in
    ap (λ x. get_or vs x 0) p ∙ f (d + i) (omega arith) ∙ ap (λ x. get_or ws x 0) q) in
    let cs = block_same vs ws b a (4 * F) (omega arith) (omega arith) (λ i l. f i (omega arith)) in
    let fs = part (4 * F) (2 * F) (omega arith) in
    let ms = part (6 * F) (2 * F) (omega arith) in
    let ss = part (8 * F) V (omega arith) in
    cc

-- one write: inside a block, past its end, before it
pub write_inside : (a n i j x : ℕ) (ws : List ℕ) → j ≡ a + i → i < n → block (set ws j x) a n ≡ set (block ws a n) i x
write_inside a n i j x ws e h = rw (e, drop-set-add) (take-set-lt n (drop a ws) i x h)

write_past : (a n j x : ℕ) (ws : List ℕ) → a + n ≤ j → block (set ws j x) a n ≡ block ws a n
write_past a n j x ws h =
    let e : j ≡ a + (j - a) = omega arith in
    let k : n ≤ j - a = omega arith in
    rw (e, drop-set-add) (take-set-le n (drop a ws) (j - a) x k)

write_before : (a n j x : ℕ) (ws : List ℕ) → j < a → block (set ws j x) a n ≡ block ws a n
write_before a n j x ws h = ap (take n) (drop-set-lt a ws j x h)

-- each slot of some writes is below n
abbrev pub Below : ℕ → List (ℕ × ℕ) → Type 0
Below n ps = AllByRecursion (λ p. p.0 < n) ps

-- writes to a table, in its own block and in any other
pub writes_inside : (a n : ℕ) (ps : List (ℕ × ℕ)) (ws : List ℕ) → Below n ps → block (put (shifted a ps) ws) a n ≡ put ps (block ws a n)
unfolding put
writes_inside a n [] ws h = refl
writes_inside a n (p ∷ ps) ws h =
    writes_inside a n ps (set ws (a + p.0) p.1) h.1 ∙ ap (put ps) (write_inside a n p.0 (a + p.0) p.1 ws refl h.0)

pub writes_outside : (a n b k : ℕ) (ps : List (ℕ × ℕ)) (ws : List ℕ) → Below n ps → (b + k ≤ a) ⊎ (a + n ≤ b) → block (put (shifted a ps) ws) b k ≡ block ws b k
unfolding put
writes_outside a n b k [] ws h o = refl
writes_outside a n b k (p ∷ ps) ws h o =
    writes_outside a n b k ps (set ws (a + p.0) p.1) h.1 o
    ∙ elim o [
      | inl e ↦ write_past b k (a + p.0) p.1 ws (omega arith)
      | inr e ↦ write_before b k (a + p.0) p.1 ws (omega (arith, h.0))
    ]
