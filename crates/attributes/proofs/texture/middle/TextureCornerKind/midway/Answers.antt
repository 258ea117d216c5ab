-- The new pair keeps the type's invariant, since the middle of lawful numbers is lawful; and it is the pair of the two middles.
use Rattle.std.proofs.Common.{◌≡◌, T, sym, subst}
use lib.Ieee.{Float}
use Rattle.attributes.specs.Halfway.{lawful, halfway_of}
use Rattle.attributes.specs.Rounding.{halfway_lawful}
use Rattle.attributes.specs.Pairs.{same_pair}
use Rattle.attributes.proofs.texture.middle.TextureCornerKind.midway.Goals as goal

kept : (x y r : Float) → r ≡ halfway_of x y → T (lawful x) → T (lawful y) → T (lawful r)
kept x y r e p q = subst (λ (z : Float). T (lawful z)) (sym e) (halfway_lawful x y p q)

pub invariant_of-result : goal.invariant_of-result
invariant_of-result c = record {
  uok = kept _ _ _ c.halfway.ensures c.args.self.now.uok c.args.other.now.uok;
  vok = kept _ _ _ c.halfway-2.ensures c.args.self.now.vok c.args.other.now.vok;
}

pub returns : goal.returns
returns c = same_pair _ _ c.halfway.ensures c.halfway-2.ensures
