-- Texture pairs with the same numbers are the same, and what rows make of them.
use Rattle.std.specs.Prelude.{◌≡◌, T, Ok, Err, refl, Float}
use Rattle.std.proofs.Math.Path.{to_path_p}
use Rattle.std.proofs.Common.{ap}
use Rattle.std.proofs.Math.Dec.{T_prop}
use Rattle.attributes.specs.Halfway.{lawful}
use Rattle.attributes.specs.Textures.{at, checked, judged, test}
use Rattle.attributes.specs.declared.texture.Texture.{Texture}

pub same_pair : (a b : Texture) → a.u ≡ b.u → a.v ≡ b.v → a ≡ b
same_pair a b p q = λ i.
    at (p i) (q i)
    (to_path_p (λ j. T (lawful (p j))) {a = a.uok} (T_prop (lawful b.u) _ b.uok) i)
    (to_path_p (λ j. T (lawful (q j))) {a = a.vok} (T_prop (lawful b.v) _ b.vok) i)

module _ (u v : Float) where
  judged_ok : (du : Dec (T (lawful u))) (dv : Dec (T (lawful v))) (hu : T (lawful u)) (hv : T (lawful v)) → judged u v du dv ≡ Ok (at u v hu hv)
  judged_ok (no k) dv hu hv = absurd (k hu)
  judged_ok (yes _) (no k) hu hv = absurd (k hv)
  judged_ok (yes a) (yes b) hu hv = ap Ok (same_pair (at u v a b) (at u v hu hv) refl refl)

  judged_u : (du : Dec (T (lawful u))) (dv : Dec (T (lawful v))) → (T (lawful u) → ⊥) → judged u v du dv ≡ Err 0
  judged_u (no _) dv k = refl
  judged_u (yes h) dv k = absurd (k h)

  judged_v : (du : Dec (T (lawful u))) (dv : Dec (T (lawful v))) → T (lawful u) → (T (lawful v) → ⊥) → judged u v du dv ≡ Err 1
  judged_v (no n) dv h k = absurd (n h)
  judged_v (yes _) (no _) h k = refl
  judged_v (yes _) (yes b) h k = absurd (k b)

  pub checked_ok : (hu : T (lawful u)) (hv : T (lawful v)) → checked u v ≡ Ok (at u v hu hv)
  unfolding checked
  checked_ok = judged_ok (test (lawful u)) (test (lawful v))

  pub checked_u : (T (lawful u) → ⊥) → checked u v ≡ Err 0
  unfolding checked
  checked_u = judged_u (test (lawful u)) (test (lawful v))

  pub checked_v : T (lawful u) → (T (lawful v) → ⊥) → checked u v ≡ Err 1
  unfolding checked
  checked_v = judged_v (test (lawful u)) (test (lawful v))
