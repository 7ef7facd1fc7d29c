-- Taking operations back keeps the work area sound: the map's entries stay darts, and the history stays as it is.
--
--   bound_length    == binding a to x keeps the length
--   bound_past      == and what stands from 2D on
--   bound_sound     == and the work area sound
--   inserted_sound  == so does inserting two darts
--   taken_back_sound == and taking back an operation that fits
use mathlib.Core.Bool.{true}
use mathlib.Core.List.{List}
use mathlib.Core.Logic.{by_cases}
use mathlib.Core.Path.{◌≡◌, ◌∙◌}
use Prim.Native.Nat.{ℕ, ◌+◌, ◌*◌, ◌/◌, ◌≤◌, ◌<◌}
use native.Mathlib.Decide.{ℕ_discrete}
use native.Mathlib.Omega.{arith}
use lib.ListN.{length, get_or, set, length-set}
use lib.Seq.{get_or-set_same, get_or-set_other}
use Rattle.permutations.specs.Choice.{eqb_same, eqb_other}
use Rattle.permutations.specs.Partner.{partner}
use Rattle.permutations.proofs.PartnerLemmas.{partner_below}
use Rattle.darts.specs.Map.{successor}
use Rattle.darts.specs.Operation.{Kind, kind_of}
use Rattle.darts.specs.Tests.{near, far}
use Rattle.laws.proofs.bridge.AnyKind.{near_far}
use Rattle.area.specs.Area.{prev, Room, bound}
use Rattle.operations.specs.Back.{fitting, fits, inserted, placed, taken_back, Mapped, Sound}
use Rattle.operations.proofs.Fitting.{fitting_near, fitting_far}

pub bound_length : (D : ℕ) (w : List ℕ) (a x : ℕ) → length (bound D w a x) ≡ length w
unfolding bound
bound_length D w a x = simp length-set

module _ (D : ℕ) (w : List ℕ) (a x : ℕ) (below_a : a < D) (below_x : x < D) where
  pub bound_past : (i : ℕ) → 2 * D ≤ i → get_or (bound D w a x) i 0 ≡ get_or w i 0
  unfolding bound
  bound_past i h = get_or-set_other (set w a x) (D + x) i a 0 (omega arith) ∙ get_or-set_other w a i x 0 (omega arith)

  bound_room : Room D w → Room D (bound D w a x)
  bound_room r = record { even = r.even; some = r.some; small = r.small; fits = rw bound_length r.fits }

  bound_darts : Mapped D w → (y : ℕ) → y < D → get_or (bound D w a x) y 0 < D
  unfolding bound
  bound_darts m y h =
      rw (get_or-set_other (set w a x) (D + x) y a 0 (omega arith))
      (by_cases (ℕ_discrete y a)
      (λ e. rw (e, get_or-set_same w a x 0 (omega arith)) below_x)
      (λ n. rw (get_or-set_other w a y x 0 n) (m.darts y h)))

  pub bound_sound : {n : ℕ} → Sound D n w → Sound D n (bound D w a x)
  bound_sound s =
      record {
        mapped = record { room = bound_room s.mapped.room; darts = bound_darts s.mapped };
        few = s.few;
        numbers = λ i h. rw (bound_past (3 * D + i) (omega arith)) (s.numbers i h);
      }

module _ {D n : ℕ} {w : List ℕ} (sound : Sound D n w) where
  pub inserted_sound : (p q r s a b : ℕ) → p < D → q < D → r < D → s < D → a < D → b < D → Sound D n (inserted D w p q r s a b)
  unfolding inserted
  inserted_sound p q r s a b hp hq hr hs ha hb =
      bound_sound D _ q s hq hs (bound_sound D _ p r hp hr (bound_sound D _ b q hb hq (bound_sound D _ a p ha hp sound)))

  -- p and q placed before x and y
  placed_sound : (k : Kind) (p q r s x y : ℕ) → p < D → q < D → r < D → s < D → fitting D w p q x y ≡ true → Sound D n (placed D w k p q r s x y)
  unfolding prev
  placed_sound k p q r s x y hp hq hr hs fit =
      by_cases (ℕ_discrete x q)
      (λ e. rw (eqb_same e)
      (inserted_sound p q r s (get_or w (D + y) 0) (near k p q) hp hq hr hs (fitting_far D w p q x y fit) (near_far (λ z. z < D) k hp hq).0))
      (λ m. rw (eqb_other m)
      (inserted_sound p q r s (get_or w (D + x) 0) (get_or w (D + y) 0) hp hq hr hs (fitting_near D w p q x y fit m) (fitting_far D w p q x y fit)))

  pub taken_back_sound : (h : ℕ) → h < 2 * D → fits D w h ≡ true → Sound D n (taken_back D w h)
  unfolding taken_back fits successor
  taken_back_sound h l fit =
      let hp : h / 2 < D = omega arith in
      let hq : partner (h / 2) < D = partner_below D (h / 2) hp sound.mapped.room.even in
      placed_sound (kind_of h) (h / 2) (partner (h / 2)) (get_or w (h / 2) 0) (get_or w (partner (h / 2)) 0)
      (near (kind_of h) (get_or w (h / 2) 0) (get_or w (partner (h / 2)) 0))
      (far (kind_of h) (get_or w (h / 2) 0) (get_or w (partner (h / 2)) 0))
      hp hq (sound.mapped.darts (h / 2) hp) (sound.mapped.darts (partner (h / 2)) hq) fit
