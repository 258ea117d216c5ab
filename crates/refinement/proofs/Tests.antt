-- Each test of a load, and the fact that it tells.
use Rattle.std.proofs.Common.{◌≡◌, ℕ, ◌+◌, ◌*◌, ◌<◌, ◌≤◌, Bool, true, false, ◌&&◌, ◌||◌, eqb, ltb, leb, ◌⊎◌, length, inl, inr}
use Rattle.std.proofs.lemmas.Bool.{cases_Bool, and_parts, and_from, or_cases, or_left, or_right, eqb-true, eq-eqb, leb-true, le-leb, ltb-true, lt-ltb, both_ways}
use Rattle.mesh.specs.Causes.{shape_ok, quads_ok, points_ok, corner_ok, friend_ok, mark_ok, back_ok, start_ok, walk_ok, all_met}
use Rattle.mesh.specs.Count.{total}
use Rattle.mesh.specs.Marks.{MarkWord, sharpest, infinite}
use Rattle.mesh.specs.Mesh.{Mesh, Counted, RunsBack, point, friend, mark, start, begins, ends, shortest, longest, valence, fewest_quads, most_quads}

-- the test passes where the fact holds, and only there
pub record Tells (test : Bool) (Fact : Type 0) : Type 0 where
  pub holds : test ≡ true → Fact
  pub passes : Fact → test ≡ true

pub denies : {t : Bool} {P : Type 0} → Tells t P → t ≡ false → P → ⊥
denies {t} d f p = both_ways t f (d.passes p)

pub fails : {t : Bool} {P : Type 0} → Tells t P → (P → ⊥) → t ≡ false
fails {t} d n = elim (cases_Bool t) [ inl e ↦ absurd (n (d.holds e)) | inr e ↦ e ]

pub decides : {t : Bool} {P : Type 0} → Tells t P → P ⊎ (P → ⊥)
decides {t} d = elim (cases_Bool t) [ inl e ↦ inl (d.holds e) | inr e ↦ inr (denies d e) ]

below : (a b : ℕ) → Tells (ltb a b) (a < b)
below a b = record { holds = ltb-true a b; passes = lt-ltb a b }

most : (a b : ℕ) → Tells (leb a b) (a ≤ b)
most a b = record { holds = leb-true a b; passes = le-leb a b }

equal : (a b : ℕ) → Tells (eqb a b) (a ≡ b)
equal a b = record { holds = eqb-true a b; passes = eq-eqb a b }

both : {s t : Bool} {P Q : Type 0} → Tells s P → Tells t Q → Tells (s && t) (P × Q)
both {s} {t} a b = record {
  holds = λ e. let p = and_parts s t e in (a.holds p.0, b.holds p.1);
  passes = λ p. and_from s t (a.passes p.0) (b.passes p.1);
}

one_of : {s t : Bool} {P Q : Type 0} → Tells s P → Tells t Q → Tells (s || t) (P ⊎ Q)
one_of {s} {t} a b = record {
  holds = λ e. elim (or_cases s t e) [ inl x ↦ inl (a.holds x) | inr x ↦ inr (b.holds x) ];
  passes = λ p. elim p [ inl x ↦ or_left s t (a.passes x) | inr x ↦ or_right s t (b.passes x) ];
}

module _ (m : Mesh) where
  pub shape_tells : Tells (shape_ok m) (Counted m)
  unfolding shape_ok
  shape_tells =
      let d = both (both (equal (length m.corners) (4 * m.quads)) (equal (length m.friends) (2 * m.quads)))
      (both (equal (length m.marks) (2 * m.quads)) (equal (length m.starts) m.points)) in
      record {
        holds = λ t. let c = d.holds t in record { corner_count = c.0.0; friend_count = c.0.1; mark_count = c.1.0; start_count = c.1.1 };
        passes = λ c. d.passes ((c.corner_count, c.friend_count), (c.mark_count, c.start_count));
      }

  pub quads_tell : Tells (quads_ok m) ((fewest_quads ≤ m.quads) × (m.quads ≤ most_quads))
  unfolding quads_ok
  quads_tell = both (most fewest_quads m.quads) (most m.quads most_quads)

  pub points_tell : Tells (points_ok m) ((m.quads ≤ m.points) × (m.points ≤ 2 * m.quads))
  unfolding points_ok
  points_tell = both (most m.quads m.points) (most m.points (2 * m.quads))

  pub corner_tells : (c : ℕ) → Tells (corner_ok m c) (point m c < m.points)
  unfolding corner_ok
  corner_tells c = below (point m c) m.points

  pub friend_tells : (o : ℕ) → Tells (friend_ok m o) (friend m o < 2 * m.quads)
  unfolding friend_ok
  friend_tells o = below (friend m o) (2 * m.quads)

  pub mark_tells : (o : ℕ) → Tells (mark_ok m o) (MarkWord (mark m o))
  unfolding mark_ok
  mark_tells o = one_of (most (mark m o) sharpest) (equal (mark m o) infinite)

  pub back_tells : (o : ℕ) → Tells (back_ok m o) (RunsBack m o)
  unfolding back_ok
  back_tells o =
      let d = both (equal (point m (2 * friend m o)) (point m (ends o))) (equal (point m (2 * friend m o + 1)) (point m (begins o))) in
      record {
        holds = λ t. let b = d.holds t in record { from_end = b.0; to_beginning = b.1 };
        passes = λ b. d.passes (b.from_end, b.to_beginning);
      }

  pub start_tells : (v : ℕ) → Tells (start_ok m v) ((start m v < 4 * m.quads) × (point m (start m v) ≡ v))
  unfolding start_ok
  start_tells v = both (below (start m v) (4 * m.quads)) (equal (point m (start m v)) v)

  pub walk_tells : (v : ℕ) → Tells (walk_ok m v) ((shortest ≤ valence m v) × (valence m v ≤ longest))
  unfolding walk_ok
  walk_tells v = both (most shortest (valence m v)) (most (valence m v) longest)

  pub met_tells : Tells (all_met m) (4 * m.quads ≤ total (valence m) m.points)
  unfolding all_met
  met_tells = most (4 * m.quads) (total (valence m) m.points)
