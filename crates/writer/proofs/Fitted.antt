-- Lists laid one after another, where there is room.
--   fitted_not  == what has no room is not laid
--   fitted_on   == one list more
--   fitted_one, fitted_two == one number that is stored, and two
--   fitted_over == what is laid at the front is laid over
--   Toward all w₀ w at r rest == from w₀ to w some of all was laid at a place, up to r, and rest is left
--   toward_all  == before anything is laid
--   toward_on   == one list more
--   toward_end  == all is laid
use mathlib.Core.Path.{◌≡◌, refl, sym, ap, ◌∙◌}
use mathlib.Core.List.{List, [], ◌∷◌, ◌++◌, append_assoc, append-nil}
use Prim.Native.Nat.{ℕ, ◌+◌, ◌≤◌, ◌<◌}
use native.Mathlib.Omega.{arith}
use lib.ListN.{length, set, length-append, length-set}
use Rattle.slices.specs.Over.{over}
use Rattle.slices.specs.Put.{Put}
use Rattle.writer.specs.Fields.{Fitted}
use Rattle.slices.specs.Laid.{Space}
use Rattle.slices.proofs.Put.{put_none, put_on, put_one, put_length}
use Rattle.slices.proofs.Laid.{laid_over}

-- what is laid where it has room
fitted_put : {w v : List ℕ} {at r : ℕ} {xs : List ℕ} → Space w at xs → Put w v at r xs → Fitted w v at r xs
fitted_put room p = record { size = put_length room p; next = p.next; slice = λ _. p.slice }

pub fitted_not : (w : List ℕ) (at : ℕ) {r : ℕ} (xs : List ℕ) → r ≡ at + length xs → length w < r → Fitted w w at r xs
fitted_not w at xs e over = record { size = refl; next = e; slice = λ h. absurd (omega arith) }

pub fitted_on : {w v u : List ℕ} {at r s : ℕ} {xs ys : List ℕ} → Fitted w v at r xs → Fitted v u r s ys → Fitted w u at s (xs ++ ys)
fitted_on {w} {v} {u} {at} {r} {s} {xs} {ys} p q =
    record {
      size = q.size ∙ p.size;
      next = rw (length-append xs ys) (omega (arith, p.next, q.next));
      slice = λ h.
          (put_on {w = w} {w' = v} {at = at} {r = r} {xs = xs} (record { fits = omega (arith, p.next, q.next) })
          (record { slice = p.slice (omega (arith, q.next)); next = p.next })
          (record { slice = q.slice (omega (arith, p.size)); next = q.next })).slice;
    }

pub fitted_one : (w : List ℕ) (r x : ℕ) → r < length w → Fitted w (set w r x) r (r + 1) (x ∷ [])
fitted_one w r x h =
    fitted_put (record { fits = omega arith }) (put_one {w = w} {w' = w} {at = r} {r = r} {xs = []} x (omega arith) (put_none w r))

pub fitted_two : (w : List ℕ) (r x y : ℕ) → r + 1 < length w → Fitted w (set (set w r x) (r + 1) y) r (r + 1 + 1) (x ∷ y ∷ [])
fitted_two w r x y h =
    fitted_on (fitted_one w r x (omega arith)) (fitted_one (set w r x) (r + 1) y (simp length-set h))

pub fitted_over : {w v : List ℕ} {r : ℕ} {xs : List ℕ} → Fitted w v 0 r xs → length xs ≤ length w → v ≡ over xs w
fitted_over {w} {v} {r} {xs} p fits = p.slice (omega (arith, p.next)) ∙ laid_over w xs

pub record Toward (all w₀ w : List ℕ) (at r : ℕ) (rest : List ℕ) : Type 0 where
  pub done : List ℕ
  pub fitted : Fitted w₀ w at r done
  pub whole : all ≡ done ++ rest

pub toward_all : (all w : List ℕ) (at : ℕ) → Toward all w w at at all
toward_all all w at = record { done = []; fitted = record { size = refl; next = (put_none w at).next; slice = λ _. (put_none w at).slice }; whole = refl }

module _ {all w₀ w : List ℕ} {at r : ℕ} {rest : List ℕ} (g : Toward all w₀ w at r rest) where
  pub toward_on : {v xs next : List ℕ} {s : ℕ} → rest ≡ xs ++ next → Fitted w v r s xs → Toward all w₀ v at s next
  toward_on {v} {xs} {next} {s} e p =
      record {
        done = g.done ++ xs;
        fitted = fitted_on g.fitted p;
        whole = g.whole ∙ ap (λ (l : List ℕ). g.done ++ l) e ∙ sym (append_assoc g.done xs next);
      }

  pub toward_end : rest ≡ [] → Fitted w₀ w at r all
  toward_end e = rw (g.whole, e, append-nil g.done) g.fitted
