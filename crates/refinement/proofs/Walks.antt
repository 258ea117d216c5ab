-- A walk: where it goes, and that it meets no corner twice before it is back.
use Rattle.std.proofs.Common.{◌≡◌, ℕ, zero, suc, ◌+◌, ◌-◌, ◌*◌, ◌%◌, ◌<◌, ◌≤◌, eqb, refl, ap, ◌∙◌, suc-add, zero-add, arith}
use Rattle.mesh.specs.Mesh.{Mesh, Sound, point, start, step, walk, longest, valence}
use Rattle.refinement.proofs.Totals.{least_is, least_fails, least_passes}
use Rattle.refinement.proofs.Steps.{step_below, step_point, step_side}
use Rattle.std.proofs.lemmas.Bool.{eqb-true, eqb-false, eq-eqb, ne_eqb}

pub walk_below : (m : Mesh) → Sound m → (v i : ℕ) → v < m.points → walk m v i < 4 * m.quads
unfolding walk
walk_below m w v zero h = w.starts_are_corners v h
walk_below m w v (suc i) h = step_below m w (walk m v i) (walk_below m w v i h)

pub walk_point : (m : Mesh) → Sound m → (v i : ℕ) → v < m.points → point m (walk m v i) ≡ v
unfolding walk
walk_point m w v zero h = w.starts_at_points v h
walk_point m w v (suc i) h = step_point m w (walk m v i) (walk_below m w v i h) ∙ walk_point m w v i h

pub walk_side : (m : Mesh) (v i : ℕ) → walk m v i % 2 ≡ start m v % 2
unfolding walk
walk_side m v zero = refl
walk_side m v (suc i) = step_side m (walk m v i) ∙ walk_side m v i

-- the walk is back after as many steps as its point's valence, and not before
pub walk_back : (m : Mesh) (v : ℕ) → valence m v ≤ longest → walk m v (valence m v) ≡ start m v
unfolding valence
walk_back m v h = eqb-true _ _ (least_passes (λ i. eqb (walk m v (suc i)) (start m v)) longest h)

pub walk_not_back : (m : Mesh) (v i : ℕ) → 0 < i → i < valence m v → walk m v i ≡ start m v → ⊥
unfolding valence
walk_not_back m v zero p l e = omega arith
walk_not_back m v (suc i) p l e = eqb-false _ _ (least_fails (λ i. eqb (walk m v (suc i)) (start m v)) longest i (omega arith)) e

pub valence_is : (m : Mesh) (v n : ℕ) → 0 < n → n ≤ longest → walk m v n ≡ start m v → ((i : ℕ) → 0 < i → i < n → walk m v i ≡ start m v → ⊥) → valence m v ≡ n
unfolding valence
valence_is m v zero p l e f = absurd (omega arith)
valence_is m v (suc n) p l e f =
    ap suc (least_is (λ i. eqb (walk m v (suc i)) (start m v)) longest n l (eq-eqb _ _ e) (λ i h. ne_eqb _ _ (f (suc i) (omega arith) (omega arith))))

-- two walks that meet go on alike
pub walk_on : (m : Mesh) (v i j k : ℕ) → walk m v i ≡ walk m v j → walk m v (k + i) ≡ walk m v (k + j)
unfolding walk
walk_on m v i j zero e = rw (zero-add i, zero-add j) e
walk_on m v i j (suc k) e = rw (suc-add k i, suc-add k j) (ap (step m) (walk_on m v i j k e))

pub walk_once : (m : Mesh) (v i j : ℕ) → valence m v ≤ longest → i < j → j < valence m v → walk m v i ≡ walk m v j → ⊥
walk_once m v i j b l h e =
    let k : ℕ = valence m v - j in
    let s : k + j ≡ valence m v = omega arith in
    walk_not_back m v (k + i) (omega arith) (omega arith) (walk_on m v i j k e ∙ ap (walk m v) s ∙ walk_back m v b)
