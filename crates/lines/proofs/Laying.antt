-- Words of rows, laid one row after the other over the front of a table.
use Rattle.std.proofs.Common.{◌≡◌, ℕ, ◌+◌, List, [], ◌∷◌, ◌++◌, length, take, drop, sym, refl, ap, ◌∙◌, append_assoc, length-append}
use Rattle.std.specs.List.{flat_map}
use Rattle.std.proofs.lemmas.List.{take_at, drop_at, drop-drop, flat_map_more}
use Rattle.lines.specs.Reading.{laid}

-- t is the table e with the parts of the rows laid over its front, up to word i
pub record Laid (part : List ℕ → List ℕ) (i : ℕ) (rows : List (List ℕ)) (e t : List ℕ) : Type 0 where
  pub upto : length (flat_map part rows) ≡ i
  pub table : t ≡ laid (flat_map part rows) e

pub laid_none : (part : List ℕ → List ℕ) (i : ℕ) (e : List ℕ) → 0 ≡ i → Laid part i [] e e
laid_none part i e z = record { upto = z; table = refl }

module _ (ws e xs : List ℕ) where
  -- one part more, behind those that lie there
  lay_behind : take (length ws) (laid ws e) ++ (xs ++ drop (length ws + length xs) (laid ws e)) ≡ laid (ws ++ xs) e
  lay_behind =
      ap (λ (x : List ℕ). x ++ (xs ++ drop (length ws + length xs) (laid ws e))) (take_at ws (drop (length ws) e) (length ws) refl)
      ∙ ap (λ (x : List ℕ). ws ++ (xs ++ x)) (sym (drop-drop (length xs) (length ws) (laid ws e)) ∙ ap (drop (length xs)) (drop_at ws (drop (length ws) e) (length ws) refl) ∙ drop-drop (length xs) (length ws) e)
      ∙ sym (append_assoc ws xs (drop (length ws + length xs) e))
      ∙ ap (λ (n : ℕ). (ws ++ xs) ++ drop n e) (sym (length-append ws xs))

pub laid_more : (part : List ℕ → List ℕ) (i j : ℕ) (rows : List (List ℕ)) (ns e t u : List ℕ) → Laid part i rows e t → u ≡ take i t ++ (part ns ++ drop (i + length (part ns)) t) → i + length (part ns) ≡ j → Laid part j (rows ++ ns ∷ []) e u
laid_more part i j rows ns e t u l w k =
    let ws = flat_map part rows in
    let m : ws ++ part ns ≡ flat_map part (rows ++ ns ∷ []) = flat_map_more part [] rows ns in
    record {
      upto = ap length (sym m) ∙ length-append ws (part ns) ∙ ap (λ (n : ℕ). n + length (part ns)) l.upto ∙ k;
      table =
          w
          ∙ ap (λ (x : List ℕ). take i x ++ (part ns ++ drop (i + length (part ns)) x)) l.table
          ∙ ap (λ (n : ℕ). take n (laid ws e) ++ (part ns ++ drop (n + length (part ns)) (laid ws e))) (sym l.upto)
          ∙ lay_behind ws e (part ns)
          ∙ ap (λ (x : List ℕ). laid x e) m;
    }

-- what is laid, by rows that are the same
pub laid_at : (part : List ℕ → List ℕ) (i : ℕ) (rows others : List (List ℕ)) (e t : List ℕ) → Laid part i rows e t → rows ≡ others → t ≡ laid (flat_map part others) e
laid_at part i rows others e t l s = l.table ∙ ap (λ (x : List (List ℕ)). laid (flat_map part x) e) s
