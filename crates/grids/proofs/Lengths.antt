-- The calls on a plan leave each lent slice as long as it was.
--   plan_long, areas_long == so it is with each of the two
use mathlib.Core.List.{List, [], reverse}
use mathlib.Core.Path.{refl}
use Prim.Native.Nat.{ℕ}
use native.Mathlib.Omega.{arith}
use lib.ListN.{length, length-reverse}
use Rattle.slices.specs.Over.{over}
use Rattle.slices.proofs.Over.{over_length}
use Rattle.darts.specs.State.{State, base_state, raised, gives, levelled}
use Rattle.darts.specs.Pyramid.{Pyramid}
use Rattle.darts.specs.Calls.{cleared}
use Rattle.darts.proofs.Fitting.{Lengths}
use Rattle.laws.proofs.tests.Passes.{pyramid_shaped}
use Rattle.laws.proofs.tests.Room.{pyramid_room}
use Rattle.laws.proofs.calls.Cleared.{cleared_length}
use Rattle.laws.proofs.sentences.Lengths.{SameLengths, AsLong}
use Rattle.grids.specs.Grid.{Grid, darts_of}
use Rattle.grids.specs.Base.{base_table}
use Rattle.grids.specs.Plans.{first_kernel, begun, plan_base, plan_areas}
use Rattle.grids.proofs.Planning.{Planning, outside, cramped, begins, planning}
use Rattle.grids.proofs.Begun.{Ends, level, none, plan_pyramid, areas_ends}

module _ (t h w : List ℕ) where
  same_long : SameLengths t h w t h w
  same_long = record { table = refl; history = refl; work = refl }

  -- a pyramid over the first numbers of slices with room
  laid_long : {z : State} {u past : List ℕ} → Pyramid z u past → Lengths z.darts (length t) (length h) (length w)
      → SameLengths t h w (over u t) (over (reverse past) h) (cleared z.darts w)
  laid_long {z} {u} {past} P l =
      let size = (pyramid_shaped P).sound.standing.size in
      let most = pyramid_room P in
      let count = length-reverse past in
      record {
        table = over_length u t (omega (arith, l.table));
        history = over_length (reverse past) h (omega (arith, l.history));
        work = cleared_length z.darts w l.work;
      }

  module _ (g : Grid) (plan : List ℕ) where
    pub plan_long : AsLong t h w (plan_base g plan t h w)
    unfolding plan_base begun over
    plan_long = go (planning g (gives (base_state (darts_of g) (base_table g)) (base_table g) []) plan t h w)
      where
        go : Planning g (gives (base_state (darts_of g) (base_table g)) (base_table g) []) plan t h w → AsLong t h w (plan_base g plan t h w)
        go (outside n e) = rw e same_long
        go (cramped l n e) = rw e same_long
        go (begins l k e) = rw e (laid_long (plan_pyramid g l) k.lengths)

    pub areas_long : AsLong t h w (plan_areas g plan t h w)
    unfolding plan_areas raised
    areas_long = go (planning g (levelled (base_state (darts_of g) (base_table g)) [] (first_kernel g plan)) plan t h w)
      where
        ended : Lengths (darts_of g) (length t) (length h) (length w) → Ends g plan t h w → AsLong t h w (plan_areas g plan t h w)
        ended l (none n e) = rw e (record { table = refl; history = refl; work = cleared_length (darts_of g) w l.work })
        ended l (level s some P e) = rw e (laid_long P l)

        go : Planning g (levelled (base_state (darts_of g) (base_table g)) [] (first_kernel g plan)) plan t h w → AsLong t h w (plan_areas g plan t h w)
        go (outside n e) = rw e same_long
        go (cramped l n e) = rw e same_long
        go (begins l k e) = ended k.lengths (areas_ends g plan t h w l k)
