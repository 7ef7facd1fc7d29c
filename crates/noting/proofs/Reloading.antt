-- Table and history loaded again, beside the notes and the forest.
--   loads_late      == loading writes nothing past the first half of the history's part
--   reloads_checked == what the check leaves of a pyramid can be loaded again
--   reload_fits     == what loading asks for
--   reloaded        == then the work area holds the map, and the forest judges a coming contraction kernel
use mathlib.Core.Bool.{Bool, true, false}
use mathlib.Core.List.{List, reverse}
use mathlib.Core.Path.{◌≡◌, refl, sym, ap, ◌∙◌}
use Prim.Native.Nat.{ℕ, ◌+◌, ◌*◌, ◌/◌, ◌≤◌}
use native.Mathlib.Omega.{arith}
use lib.Dec.{T}
use lib.ListN.{length, take, drop, replicate, length-replicate}
use lib.Seq.{length-take-le}
use Rattle.permutations.specs.Choice.{true→T}
use Rattle.darts.specs.Calls.{table_of, past_of}
use Rattle.std.proofs.Common.{if◌then◌else◌}
use Rattle.darts.specs.Operation.{kind_of}
use Rattle.darts.specs.Pyramid.{Pyramid}
use Rattle.darts.specs.State.{State, counted}
use Rattle.laws.proofs.claims.Decided.{pyramid_decided}
use Rattle.slices.specs.Laid.{laid, Space}
use Rattle.slices.proofs.Laid.{laid_length, laid_rest}
use Rattle.area.specs.Area.{Room, Tried, tried}
use Rattle.area.specs.Load.{marks, links, links_after, relinks, loads, given, blank}
use Rattle.area.specs.Verdicts.{passing}
use Rattle.engine.proofs.Checking.{loaded_beyond}
use Rattle.engine.proofs.Decides.{pyramid_loads, pyramid_few}
use Rattle.engine.proofs.Given.{linked_stand}
use Rattle.engine.proofs.Laid.{Laid, given_laid}
use Rattle.engine.proofs.Linked.{Links, links_right}
use Rattle.engine.proofs.Loaded.{Loaded, loads_right}
use Rattle.engine.proofs.Marked.{Marks, marks_right}
use Rattle.engine.proofs.Parts.{rest_from}
use Rattle.noting.specs.Checks.{NoteChecked, Reloads, Reloaded}

-- ---- past the first half of the history's part

module _ (D n : ℕ) (t h w : List ℕ) (room : Room D w) (long : D ≤ length t) (enough : n ≤ length h) (few : n ≤ D / 2) where
  abbrev late : ℕ
  late = 3 * D + D / 2

  abbrev e : List ℕ
  e = blank D (given D n t h w)

  E : Laid D n t h w e
  E = given_laid D n t h w room long enough few

  first : Space w 0 (take D t)
  first = record { fits = omega (arith, length-take-le D t long, room.fits) }

  second : Space (laid w 0 (take D t)) (3 * D) (take n h)
  second = record { fits = omega (arith, length-take-le n h enough, laid_length w 0 (take D t) first, room.fits) }

  given_length : length (given D n t h w) ≡ length w
  unfolding given
  given_length = laid_length (laid w 0 (take D t)) (3 * D) (take n h) second ∙ laid_length w 0 (take D t) first

  given_late : drop late (given D n t h w) ≡ drop late w
  unfolding given
  given_late =
      laid_rest (laid w 0 (take D t)) (3 * D) (take n h) second late (omega (arith, length-take-le n h enough))
      ∙ laid_rest w 0 (take D t) first late (omega (arith, length-take-le D t long))

  e_late : drop late e ≡ drop late w
  unfolding blank
  e_late =
      let k = length-replicate D (D + 1) in
      laid_rest (given D n t h w) D (replicate D (D + 1)) (record { fits = omega (arith, k, given_length, room.fits) }) late (omega (arith, k)) ∙ given_late

  abbrev a : Tried
  a = marks D e 0 n

  M : Marks D n e a
  M = marks_right D n e room.even (omega arith) (rw E.size room.fits) E.unknown

  a_late : drop late a.work ≡ drop late w
  a_late = rest_from D late a.work e M.rest (omega arith) ∙ e_late

  linked_late : T a.fine → drop late (links D n a.work 0 D).work ≡ drop late w
  linked_late f =
      let L : Links D (take D t) (reverse (take n h)) D 0 a.work (links D n a.work 0 D) =
      links_right D n (take D t) (reverse (take n h)) a.work (λ z. rw z refl) (M.table ∙ E.table) (omega (arith, M.size, E.size, room.fits))
      (rw E.past at (M.marked f)) in
      rest_from D late (links D n a.work 0 D).work a.work L.rest (omega arith) ∙ a_late

  pub loads_late : drop late (loads D n t h w).work ≡ drop late w
  unfolding loads relinks links_after
  loads_late = go a.fine refl
    where
      go : (c : Bool) → a.fine ≡ c → drop late (if c then passing (links D n a.work 0 D) else a).work ≡ drop late w
      go true f = linked_late (true→T f)
      go false f = a_late

-- ---- loaded again

pub reloads_checked : {s : State} {t h w w' : List ℕ} → Room s.darts w → s.darts ≤ length t → s.darts / 2 ≤ length h → NoteChecked s t h w w' true
    → Reloads s t h w'
reloads_checked room long enough C = record {
  room = record { even = room.even; some = room.some; small = room.small; fits = omega (arith, C.beyond.size, room.fits) };
  long = long;
  enough = enough;
  pyramid = true→T (sym C.answer);
  falls = C.falls refl;
  roots = C.roots refl;
}

module _ {s : State} {t h w : List ℕ} (R : Reloads s t h w) where
  abbrev D : ℕ
  D = s.darts

  abbrev n : ℕ
  n = s.operations

  P : Pyramid (counted s (table_of s t) (past_of s h)) (table_of s t) (past_of s h)
  P = (pyramid_decided (counted s (table_of s t) (past_of s h)) (table_of s t) (past_of s h)).0 R.pyramid

  few : n ≤ D / 2
  few = pyramid_few P

  pub reload_fits : Room D w × ((D ≤ length t) × (n ≤ length h) × (n ≤ D))
  reload_fits = (R.room, (R.long, omega (arith, few, R.enough), omega (arith, few)))

  module _ {m : Bool} {v : List ℕ} (loaded : tried m v ≡ loads D n t h w) where
    L : Loaded D n t h w (tried m v)
    L = rw loaded (loads_right linked_stand n t h w R.room R.long (omega (arith, few, R.enough)) few)

    fine : T m
    unfolding table_of past_of
    fine = rw L.fine (pyramid_loads P)

    -- THE MAP STANDS BESIDE THE NOTES AND THE FOREST
    pub reloaded : Reloaded s t h w v
    unfolding table_of past_of kind_of
    reloaded = record {
      ready = record {
        kind = omega arith;
        area = L.area fine;
        falls = rw L.forest R.falls;
        roots = rw (L.forest, L.table, L.past) R.roots;
      };
      table = L.table;
      past = L.past;
      forest = L.forest;
      notes = ap (λ x. drop (3 * D + D / 2) x.work) loaded ∙ loads_late D n t h w R.room R.long (omega (arith, few, R.enough)) few;
      beyond = loaded_beyond L;
    }
