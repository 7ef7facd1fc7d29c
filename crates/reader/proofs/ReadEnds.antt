-- The ways that a read ends.
--   darts_small   == the D that is found is at most 99,999
--   read_unopened == a fault before D is known: nothing is written
--   read_unfit    == 1 or 2: nothing is written
--   read_on       == what follows decides
--   closed_fault  == a fault after D is known
--   closed_none   == no pyramid
--   closed_many   == over D/2 operations, which no pyramid has
--   closed_all    == a pyramid
use mathlib.Core.Bool.{Bool, true, false, not}
use mathlib.Core.List.{List, map, reverse, reverse-reverse}
use mathlib.Core.Logic.{◌≢◌}
use mathlib.Core.Path.{◌≡◌, refl, ap, ◌∙◌}
use Prim.Native.Nat.{ℕ, ◌/◌, ◌≤◌, ◌<◌}
use native.Mathlib.Omega.{arith}
use lib.ListN.{length, length-reverse}
use Rattle.permutations.specs.Choice.{not_T→false}
use Rattle.std.proofs.Common.{if◌then◌else◌}
use Rattle.darts.specs.Answers.{Answer, done, no_dart_count, too_short, no_pyramid}
use Rattle.darts.specs.State.{State, zeros}
use Rattle.darts.specs.Pyramid.{dart_count, is_pyramid}
use Rattle.darts.specs.Text.{bytes}
use Rattle.darts.specs.File.{line_feed}
use Rattle.darts.specs.Scan.{Scan, found, fault, word, field}
use Rattle.darts.specs.Read.{Opening, Body, Read, faulty, flag_at, opening, body, from_flag, total, file_state, file_history, closed, opened, read_file}
use Rattle.darts.specs.Calls.{After, leaves, room, fitting, cleared, read_into, read}
use Rattle.slices.specs.Over.{over}
use Rattle.laws.proofs.claims.Decided.{pyramid_decided}
use Rattle.laws.proofs.tests.Room.{pyramid_room}
use Rattle.file_lines.specs.Lines.{starts_with}
use Rattle.file_lines.proofs.After.{through, field_small}
use Rattle.file_lines.proofs.KernelLines.{history_length}

pub darts_small : (b : List ℕ) {o : Opening} {at : ℕ} → opening b ≡ found o at → o.darts ≤ 99999
unfolding opening
darts_small b {o} {at} e =
    let key = through (word (bytes "numbers=") b 0) _ e in
    let flag = through (flag_at b key.place) _ key.second in
    let line = through (word line_feed b flag.place) _ flag.second in
    let darts = through (field (bytes "darts=") line_feed b line.place) _ line.second in
    let same : starts_with flag.value darts.value ≡ o = cc darts.second in
    omega (arith, ap (λ (z : Opening). z.darts) same, field_small _ _ _ _ darts.first)

module _ (b t h w : List ℕ) where
  pub read_unopened : {a : Answer} → opening b ≡ fault a → leaves a zeros t h w ≡ read b t h w
  unfolding read read_file opened read_into cleared over
  read_unopened e = rw e

  module _ {o : Opening} {at : ℕ} (e : opening b ≡ found o at) where
    abbrev first : Answer
    first = fitting o.darts (length t) (length h) (length w)

    pub read_unfit : first.number ≢ 0 → leaves first zeros t h w ≡ read b t h w
    unfolding read read_file opened read_into cleared over fitting
    read_unfit n = rw e (go (dart_count o.darts) (room (length t) (length h) (length w) o.darts) (closed o (body o.darts b at)) n)
      where
        go : (c r : Bool) (rest : Read) → (if not c then no_dart_count else if not r then too_short else done).number ≢ 0
            → leaves (if not c then no_dart_count else if not r then too_short else done) zeros t h w
            ≡ read_into t h w (if not c then faulty 0 no_dart_count else if not r then faulty 0 too_short else rest)
        go false r rest n = refl
        go true false rest n = refl
        go true true rest n = absurd (n refl)

    pub read_on : first.number ≡ 0 → read_into t h w (closed o (body o.darts b at)) ≡ read b t h w
    unfolding read read_file opened fitting
    read_on z = rw e (go (dart_count o.darts) (room (length t) (length h) (length w) o.darts) (closed o (body o.darts b at)) z)
      where
        go : (c r : Bool) (rest : Read) → (if not c then no_dart_count else if not r then too_short else done).number ≡ 0
            → read_into t h w rest ≡ read_into t h w (if not c then faulty 0 no_dart_count else if not r then faulty 0 too_short else rest)
        go false r rest z = absurd (omega arith)
        go true false rest z = absurd (omega arith)
        go true true rest z = refl

module _ (t h w : List ℕ) (o : Opening) where
  -- what a refusal leaves
  abbrev refused : Answer → After
  refused a = leaves a zeros t h (cleared o.darts w)

  pub closed_fault : {s : Scan Body} {a : Answer} → s ≡ fault a → refused a ≡ read_into t h w (closed o s)
  unfolding closed read_into
  closed_fault e = rw e

  module _ {s : Scan Body} {c : Body} {next : ℕ} (e : s ≡ found c next) where
    abbrev table : List ℕ
    table = map (from_flag o.flag o.darts) c.numbers

    abbrev past : List ℕ
    past = reverse (file_history c.kernels)

    abbrev state : State
    state = file_state o.darts c.kernels table past

    pub closed_none : is_pyramid state table past ≡ false → refused no_pyramid ≡ read_into t h w (closed o s)
    unfolding closed read_into
    closed_none fails = rw (e, fails)

    pub closed_many : o.darts / 2 < total c.kernels → refused no_pyramid ≡ read_into t h w (closed o s)
    unfolding file_state file_history
    closed_many many =
        closed_none
        (not_T→false (is_pyramid state table past)
        (λ passes.
        let few = pyramid_room ((pyramid_decided state table past).0 passes) in
        let size : length past ≡ total c.kernels = length-reverse (file_history c.kernels) ∙ history_length 0 c.kernels in
        omega arith))

    pub closed_all : is_pyramid state table past ≡ true
        → leaves done state (over table t) (over (file_history c.kernels) h) (cleared o.darts w) ≡ read_into t h w (closed o s)
    unfolding closed read_into file_state
    closed_all passes = rw (e, passes) (rw (reverse-reverse (file_history c.kernels)))
