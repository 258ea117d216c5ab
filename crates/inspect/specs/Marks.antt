-- How many off-edges have each kind of mark.
use Rattle.std.specs.Prelude.{◌≡◌, ℕ, ◌+◌, Bool, cond, not, ◌&&◌, ◌||◌, List, length, filter, ◌==◌, nat_le}
use Rattle.mesh.specs.Marks.{sharpest, infinite}
use Rattle.inspect.specs.declared.tally.Tally.{Tally}

abbrev pub is_smooth : ℕ → Bool
is_smooth w = w == 0

abbrev pub is_semi_sharp : ℕ → Bool
is_semi_sharp w = nat_le 1 w && nat_le w sharpest

abbrev pub is_infinite : ℕ → Bool
is_infinite w = w == infinite

abbrev pub is_no_mark : ℕ → Bool
is_no_mark w = not (nat_le w sharpest || w == infinite)

unfoldable pub how_many : (ℕ → Bool) → List ℕ → ℕ
how_many test ws = length (filter test ws)

-- one more where the test passes
abbrev pub one_if : Bool → ℕ → ℕ
one_if b n = cond b (n + 1) n

pub record Adds (w : ℕ) (t u : Tally) : Type 0 where
  pub smooth_adds : u.smooth ≡ one_if (is_smooth w) t.smooth
  pub semi_sharp_adds : u.semi_sharp ≡ one_if (is_semi_sharp w) t.semi_sharp
  pub infinite_adds : u.infinite ≡ one_if (is_infinite w) t.infinite
  pub no_mark_adds : u.no_mark ≡ one_if (is_no_mark w) t.no_mark

pub record Tallies (ws : List ℕ) (t : Tally) : Type 0 where
  pub smooth_are : t.smooth ≡ how_many is_smooth ws
  pub semi_sharp_are : t.semi_sharp ≡ how_many is_semi_sharp ws
  pub infinite_are : t.infinite ≡ how_many is_infinite ws
  pub no_marks_are : t.no_mark ≡ how_many is_no_mark ws
