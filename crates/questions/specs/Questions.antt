-- Questions to a level of a bench: when they are refused, and what is answered.
use Rattle.std.specs.Prelude.{◌≡◌, ℕ, ◌+◌, ◌*◌, List, [], ◌∷◌, map, Some, None, Ok, Err, Option, Result, nat_le}
use Rattle.mesh.specs.Marks.{word_of}
use Rattle.mesh.specs.Mesh.{Mesh, point, friend, mark, start, begins, ends}
use Rattle.mesh.specs.Refusals.{Verdict, fine, declined, number_of, place_of}
use Rattle.mesh.specs.declared.fault.Fault.{Fault}
use Rattle.mesh.specs.declared.mark.Mark.{Mark}
use Rattle.mesh.specs.declared.number.Corner.{Corner}
use Rattle.mesh.specs.declared.number.Edge.{Edge}
use Rattle.mesh.specs.declared.number.Point.{Point}
use Rattle.chain.specs.Calls.{State, cause, and_next}
use Rattle.bench.specs.Questions.{seen, unseen}
use Rattle.bench.specs.declared.level.Level.{Level}

-- a question is refused where its level is not seen, and 16 where the number n is not below a count of the level
abbrev pub counted : (Mesh → ℕ) → Option Mesh → ℕ
counted count None = 0
counted count (Some m) = count m

abbrev pub asking : State → Level → (Mesh → ℕ) → ℕ → Verdict
asking s l count n = and_next (unseen s l) (cause 16 n (nat_le (counted count (seen s l)) n) fine)

-- what is answered of number n is so of the level
abbrev pub Tells : {A : Type 0} → State → Level → (Mesh → ℕ) → ℕ → (Mesh → A → Type 0) → Result A Fault → Type 0
Tells s l count n Is (Ok x) = (asking s l count n ≡ fine) × ((m : Mesh) × (seen s l ≡ Some m) × Is m x)
Tells s l count n Is (Err f) = asking s l count n ≡ declined (number_of f) (place_of f)

-- The answers: the counts of the level,
abbrev pub CountsAre : Mesh → ℕ × ℕ → Type 0
CountsAre m p = (p.0 ≡ m.quads) × (p.1 ≡ m.points)

-- the point of a corner, the points where an edge begins and ends, the start of a point,
abbrev pub CornerIs : ℕ → Mesh → Point → Type 0
CornerIs c m p = p.0 ≡ point m c

abbrev pub EdgeIs : ℕ → Mesh → Point × Point → Type 0
EdgeIs e m p = (p.0.0 ≡ point m (2 * e)) × (p.1.0 ≡ point m (2 * e + 1))

abbrev pub StartIs : ℕ → Mesh → Corner → Type 0
StartIs v m c = c.0 ≡ start m v

-- the friend of an off-edge, and the points where it begins and ends, with its mark
abbrev pub FriendIs : ℕ → Mesh → Edge → Type 0
FriendIs o m e = e.0 ≡ friend m o

abbrev pub OffEdgeIs : ℕ → Mesh → Point × Point × Mark → Type 0
OffEdgeIs o m p = (p.0.0 ≡ point m (begins o)) × (p.1.0 ≡ point m (ends o)) × (word_of p.2 ≡ mark m o)

-- the points of a quad in winding order
abbrev pub QuadIs : ℕ → Mesh → List Point → Type 0
QuadIs q m ps = map (λ p. p.0) ps ≡ point m (4 * q) ∷ point m (4 * q + 1) ∷ point m (4 * q + 2) ∷ point m (4 * q + 3) ∷ []
