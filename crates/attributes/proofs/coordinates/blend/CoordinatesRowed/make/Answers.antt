use Rattle.std.proofs.Common.{◌≡◌, ℕ, zero, suc, ◌<◌, ℤ, pos, List, get_or, Err, sym, arith, w32, SFits, rules}
use Rattle.std.proofs.lemmas.Int.{to_z-of_z}
use Rattle.attributes.specs.Coordinates.{verdict_of}
use Rattle.attributes.specs.Limit.{Limited}
use Rattle.attributes.specs.Limits.{checked_x, checked_y, checked_z, makes}
use Rattle.attributes.proofs.coordinates.blend.CoordinatesRowed.make.Goals as goal

-- the first component that is past the limit
first : (r : List ℤ) (i : ℕ) → i < 3 → (Limited (get_or r i (pos 0)) → ⊥) → ((k : ℕ) → k < i → Limited (get_or r k (pos 0))) → Err i ≡ verdict_of r
first r zero l e b = sym (checked_x _ _ _ e)
first r (suc zero) l e b = sym (checked_y _ _ _ (b 0 (omega arith)) e)
first r (suc (suc zero)) l e b = sym (checked_z _ _ _ (b 0 (omega arith)) (b 1 (omega arith)) e)
first r (suc (suc (suc k))) l e b = absurd (omega arith)

pub returns-in-None : goal.returns-in-None
returns-in-None c =
    let fx : SFits w32 (get_or c.args.from.now 0 (pos 0)) = search rules in
    let fy : SFits w32 (get_or c.args.from.now 1 (pos 0)) = search rules in
    let fz : SFits w32 (get_or c.args.from.now 2 (pos 0)) = search rules in
    makes c.args.from.now _ (to_z-of_z w32 _ fx) (to_z-of_z w32 _ fy) (to_z-of_z w32 _ fz)

pub returns-in-Some : goal.returns-in-Some
returns-in-Some c = first c.args.from.now c.in-Some.i (search rules) (search rules) (search rules)
