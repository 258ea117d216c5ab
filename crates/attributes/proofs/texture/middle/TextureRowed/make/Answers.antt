use Rattle.std.proofs.Common.{◌≡◌, ℕ, zero, suc, ◌<◌, T, List, get_or, Err, sym, arith, rules}
use Rattle.std.specs.Float.{Float, nan}
use Rattle.attributes.specs.Halfway.{lawful}
use Rattle.attributes.specs.Pairs.{checked_ok, checked_u, checked_v}
use Rattle.attributes.specs.Textures.{verdict_of}
use Rattle.attributes.proofs.texture.middle.TextureRowed.make.Goals as goal

-- the first component that is no texture number
first : (r : List Float) (i : ℕ) → i < 2 → (T (lawful (get_or r i nan)) → ⊥) → ((k : ℕ) → k < i → T (lawful (get_or r k nan))) → Err i ≡ verdict_of r
first r zero l e b = sym (checked_u _ _ e)
first r (suc zero) l e b = sym (checked_v _ _ (b 0 (omega arith)) e)
first r (suc (suc k)) l e b = absurd (omega arith)

pub returns-in-None : goal.returns-in-None
returns-in-None c = sym (checked_ok _ _ _ _)

pub returns-in-Some : goal.returns-in-Some
returns-in-Some c = first c.args.from.now c.in-Some.i (search rules) (search rules) (search rules)
