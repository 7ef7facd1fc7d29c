-- Calls with sheets worked by hand, on map T of document 01: all that each leaves, refusals too, as one table under one claim (document 02, requests
-- Five and Six).
--   at_one, at_two        == T after one operation of K5, and after both in two levels, lent with these sheets
--   at_removed, at_freed, at_higher, at_k6 == T once edge 0 is removed, then edge 1 contracted; once edge 2 is contracted; after K6
--   repeated, shifted   == tables that are no permutation
--   m1, m2, m3, m6, .+  == 0.1, 0.2, 0.3, 0.6, and what the sums in their stead are, as bits
--   trio a b c ks       == sheets with the records a, b and c at the three places that K5 joins
--   wrong, many         == sheets that nothing gives; with stitches too many
--   table       == the rows
--   worked      == all of them are right
--   subtracting == what was added and is subtracted does not give the old figure
use Rattle.std.proofs.Math.Bool.{true, false, not}
use Rattle.std.specs.Prelude.{◌&&◌, ◌≡◌, refl, ℕ, pos, negsuc, Float}
use mathlib.Core.List.{List, [], ◌∷◌, ◌++◌}
use Rattle.std.specs.Float.Ieee as Ieee
use Rattle.std.specs.Float.{nan, inf, fin}
use Rattle.std.specs.Float.Ieee.{binary64}
use Rattle.slices.specs.Over.{over}
use Rattle.permutations.specs.Partner.{partner}
use Rattle.permutations.specs.Cycle.{meets_in}
use Rattle.darts.specs.Map.{successor, face_next, same_vertex, same_face, gone, survives, before_in, before}
use Rattle.darts.specs.Map.{repeats, culprit, test_from, permutation_test}
use Rattle.darts.specs.Operation.{turned, lead, whole_edge, remove, contract, operate, number, kind_of, lead_of, edge_of, put_back, undo_one, undone}
use Rattle.darts.specs.Kernel.{shared, judge, rising, pass_from, pass, run}
use Rattle.darts.specs.State.{raised, levelled, reduce}
use Rattle.darts.specs.Levels.{empty_loop, takes, swept_from, swept, sweep, end_below, lowered, undo_level, undo_levels, unfold_to}
use Rattle.darts.specs.Counts.{never_below, lowest as lowestIn, cycles, counts_of}
use Rattle.darts.specs.Pyramid.{dart_count, build, kernel_of, cut, kernels_of, same_numbers, same_state, is_exactly, is_pyramid}
use Rattle.darts.specs.Calls.{room, fitting as fittingPlain, table_of, past_of, cleared, work_after, begins, hands_back}
use Rattle.sheets.specs.declared.Zone.{Zone}
use Rattle.sheets.specs.Records.{same_integer, same_metres, same_yarn, same_zone}
use Rattle.sheets.specs.Sheets.{Sheets, low_into, high_of, merged, returned, merged_by, returned_by, last_into}
use Rattle.sheets.specs.Sheets.{sound, kept_sound, kept_right, sheet_right, right as rightSheets}
use Rattle.yarn.specs.Places.{lowest_from, lowest, is_place, joins, zoned, merge_by, merges_of, merges}
use Rattle.yarn.specs.Given.{given}
use Rattle.yarn.specs.Calls.{fitting, fitting_of, base_of, judged, unfit_from, first_unfit, begins_with, start_with}
use Rattle.yarn.specs.Calls.{carried, carried_to, sheets_after, on_sheets, reduce_with, sweep_with, undo_with, unfold_with}
use Rattle.yarn.specs.Rows.{Lent, contracting, removing, sweeping, undoing, to_level, Row, calls, refusing, numbers, all_right}
use Rattle.yarn.specs.Rows.{zone, unmeasured, half, rubbish, sheets, fewer, longer}
use Rattle.yarn.specs.OnT.{lent, state_of, state, T, T3, T5, T6, h5, h7, past, K5, K7, at_t, at_k5, at_k7, misnumbered}
use Rattle.yarn.specs.OnT.{keeps, silent, refused, unbegun, begun, S0, three, six, kept5, S1, S5, back}

-- ---- T elsewhere

-- after one operation of K5, and after both, in levels of their own
abbrev at_one : List ℕ → Sheets → Lent
at_one hs S = lent (state 1 (1 ∷ []) 3 2) T3 (past hs) S

abbrev at_two : Sheets → Lent
at_two S = lent (state 2 (1 ∷ 2 ∷ []) 2 2) T5 (past h5) S

-- edge 0 removed; then edge 1 contracted
abbrev at_removed : Sheets → Lent
at_removed S = lent (state 1 (1 ∷ []) 4 1) (5 ∷ 2 ∷ 2 ∷ 4 ∷ 6 ∷ 5 ∷ 3 ∷ 7 ∷ 9 ∷ []) (past (0 ∷ [])) S

abbrev at_freed : Sheets → Lent
at_freed S = lent (state 2 (1 ∷ 2 ∷ []) 3 1) (5 ∷ 2 ∷ 2 ∷ 4 ∷ 6 ∷ 5 ∷ 4 ∷ 7 ∷ 9 ∷ []) (past (0 ∷ 7 ∷ [])) S

-- edge 2 contracted
abbrev at_higher : Sheets → Lent
at_higher S = lent (state 1 (1 ∷ []) 3 2) (6 ∷ 2 ∷ 1 ∷ 0 ∷ 6 ∷ 0 ∷ 3 ∷ 7 ∷ 9 ∷ []) (past (9 ∷ [])) S

-- K6: edge 1 contracted, then edge 0
abbrev at_k6 : Sheets → Lent
at_k6 S = lent (state 2 (2 ∷ []) 2 2) T6 (past (5 ∷ 1 ∷ [])) S

-- tables that are no permutation
abbrev repeated : Sheets → Lent
repeated S = lent (state 0 [] 4 2) (5 ∷ 2 ∷ 1 ∷ 4 ∷ 6 ∷ 0 ∷ 3 ∷ 4 ∷ 9 ∷ []) (past []) S

abbrev shifted : Sheets → Lent
shifted S = lent (state 0 [] 4 2) (9 ∷ T) (past []) S

-- ---- sheets

-- 0.1, 0.2, 0.3, 0.30000000000000004, 0.6, 0.6000000000000001 and 0.10000000000000003 as bits
abbrev m1 : Float
m1 = Ieee.of_bits binary64 4591870180066957722

abbrev m2 : Float
m2 = Ieee.of_bits binary64 4596373779694328218

abbrev m3 : Float
m3 = Ieee.of_bits binary64 4599075939470750515

abbrev m3+ : Float
m3+ = Ieee.of_bits binary64 4599075939470750516

abbrev m6 : Float
m6 = Ieee.of_bits binary64 4603579539098121011

abbrev m6+ : Float
m6+ = Ieee.of_bits binary64 4603579539098121012

abbrev m1+ : Float
m1+ = Ieee.of_bits binary64 4591870180066957724

-- records a, b and c at the three places that K5 joins, 0.5 metres and 4 stitches at the last
abbrev trio : Zone → Zone → Zone → List Zone → Sheets
trio a b c ks = sheets a b c (half 4) ks

-- the second contraction's place of the second sheet, and the first one's left free
abbrev freed : List Zone
freed = rubbish ∷ half 2 ∷ []

-- what K5 gives, but for a kept record of 2 stitches: no start and no operations give it
abbrev wrong : Sheets
wrong = trio six (half 2) (half 3) (half 2 ∷ three ∷ [])

abbrev many : Sheets
many = trio (half 1) (half 2) (half 65536) []

abbrev most : Zone
most = zone 196605 (fin false 3 (negsuc 0))

abbrev kept_most : List Zone
kept_most = half 65535 ∷ zone 131070 (fin false 1 (pos 0)) ∷ []

abbrev zero_metres : ℕ → Zone
zero_metres n = zone n (fin false 0 (pos 0))

abbrev tenths : Sheets
tenths = trio (zone 1 m1) (zone 2 m2) (zone 3 m3) []

abbrev tenths5 : Sheets
tenths5 = trio (zone 6 m6+) (zone 2 m2) (zone 3 m3) (zone 1 m1 ∷ zone 3 m3+ ∷ [])

abbrev tenths6 : Sheets
tenths6 = trio (zone 6 m6) (half 5) (zone 3 m3) (zone 2 m2 ∷ zone 1 m1 ∷ [])

abbrev pub table : List Row
table =
    -- K5 and K7, and back by undo; "a removal's place is neither read nor written"
    begun S0
    ∷ calls (contracting (0 ∷ 1 ∷ [])) (at_t [] S0) 0 0 0 (at_k5 h5 S5) 32
    ∷ calls (removing (2 ∷ [])) (at_k5 h5 S5) 0 0 0 (at_k7 h7 S5) 32
    ∷ calls undoing (at_k7 h7 S5) 0 0 0 (at_k5 h7 S5) 32
    ∷ calls undoing (at_k5 h7 S5) 0 0 0 (at_t h7 back) 32
    -- unfold: to the base; to the top; above the top; undo at the base
    ∷ calls (to_level 0) (at_k7 h7 S5) 0 0 0 (at_t h7 back) 32
    ∷ calls (to_level 1) (at_k7 h7 S5) 0 0 0 (at_k5 h7 S5) 32
    ∷ keeps (to_level 2) (at_k7 h7 S5) 0 0
    ∷ keeps (to_level 3) (at_k7 h7 S5) 12 2
    ∷ keeps undoing (at_t [] S0) 12 0
    -- the two operations of K5 in two levels, and back, one and both
    ∷ calls (contracting (0 ∷ [])) (at_t [] S0) 0 0 0 (at_one (1 ∷ []) (S1 (half 1 ∷ []))) 32
    ∷ calls (contracting (1 ∷ [])) (at_one (1 ∷ []) (S1 (half 1 ∷ []))) 0 0 0 (at_two S5) 32
    ∷ calls (to_level 1) (at_two S5) 0 0 0 (at_one h5 (S1 kept5)) 32
    ∷ calls (to_level 0) (at_two S5) 0 0 0 (at_t h5 back) 32
    -- edge 0 removed, then edge 1 contracted: "one an operation", the removal's place is left free
    ∷ calls (contracting (1 ∷ [])) (at_removed S0) 0 0 0 (at_freed (trio (half 1) (zone 5 (fin false 1 (pos 0))) (half 3) freed)) 32
    ∷ calls (to_level 0) (at_freed (trio (half 1) (zone 5 (fin false 1 (pos 0))) (half 3) freed)) 0 0 0
    (at_t (0 ∷ 7 ∷ []) (trio (half 1) (half 2) (half 3) freed)) 32
    -- the sweep takes edge 2, and no record is merged
    ∷ calls sweeping (at_k5 h5 S5) 0 0 0 (at_k7 h7 S5) 32
    -- "into the lower-numbered one": edge 2's even dart is at the higher place
    ∷ calls (contracting (2 ∷ [])) (at_t [] S0) 0 0 0 (at_higher (trio (zone 4 (fin false 1 (pos 0))) (half 2) (half 3) (half 1 ∷ []))) 32
    -- "not measured with anything is not measured": the other one of two, the lower one of two, neither
    ∷ calls (contracting (0 ∷ 1 ∷ [])) (at_t [] (trio (half 1) (unmeasured 2) (half 3) [])) 0 0 0
    (at_k5 h5 (trio (unmeasured 6) (unmeasured 2) (half 3) (half 1 ∷ unmeasured 3 ∷ []))) 32
    ∷ calls undoing (at_k5 h5 (trio (unmeasured 6) (unmeasured 2) (half 3) (half 1 ∷ unmeasured 3 ∷ []))) 0 0 0
    (at_t h5 (trio (half 1) (unmeasured 2) (half 3) (half 1 ∷ unmeasured 3 ∷ []))) 32
    ∷ calls (contracting (0 ∷ 1 ∷ [])) (at_t [] (trio (unmeasured 1) (half 2) (half 3) [])) 0 0 0
    (at_k5 h5 (trio (unmeasured 6) (half 2) (half 3) (unmeasured 1 ∷ unmeasured 3 ∷ []))) 32
    ∷ calls (contracting (0 ∷ 1 ∷ [])) (at_t [] (sheets (half 1) (half 2) (half 3) (unmeasured 4) [])) 0 0 0
    (at_k5 h5 (sheets six (half 2) (half 3) (unmeasured 4) kept5)) 32
    -- "16, by the start after 3, for metres not from 0 to 100,000 (a NaN is not) or stitches too many"
    ∷ begun (trio (half 1) (half 2) (half 65535) [])
    ∷ refused (at_t [] many) 16 3 0
    ∷ refused (at_t [] (sheets (half 1) (half 2) (half 3) (unmeasured 65536) [])) 16 7 0
    ∷ refused (at_t [] (trio (zone 1 nan) (half 2) (half 3) [])) 16 0 0
    ∷ refused (at_t [] (trio (half 1) (zone 2 (fin true 1 (pos 0))) (half 3) [])) 16 1 0
    ∷ refused (at_t [] (sheets (half 1) (half 2) (half 3) (zone 4 (fin false 200001 (negsuc 0))) [])) 16 7 0
    ∷ refused (at_t [] (trio (half 1) (half 2) (zone 3 (inf false)) [])) 16 3 0
    ∷ begun (sheets (zone 1 (fin true 0 (pos 0))) (half 2) (half 3) (zone 4 (fin false 3125 (pos 5))) [])
    -- "place the first such record"; 3 before 16
    ∷ refused (at_t [] (sheets (half 1) (half 65536) (zone 3 nan) (half 65536) [])) 16 1 0
    ∷ refused (repeated (trio (zone 1 nan) (half 2) (half 3) [])) 3 7 3
    -- "These limits are for the base's records; merged ones may be larger"
    ∷ calls (contracting (0 ∷ 1 ∷ [])) (at_t [] (trio (half 65535) (half 65535) (half 65535) [])) 0 0 0
    (at_k5 h5 (trio most (half 65535) (half 65535) kept_most)) 32
    ∷ calls undoing (at_k5 h5 (trio most (half 65535) (half 65535) kept_most)) 0 0 0
    (at_t h5 (trio (half 65535) (half 65535) (half 65535) kept_most)) 32
    -- "Order: 1, 2": 1, also where the sheets are too short for these darts; then 2 for either sheet one place short; they write nothing
    ∷ unbegun 7 (at_t [] (fewer 7 3 S0)) 1
    ∷ unbegun 7 (at_t [] (fewer 6 2 S0)) 1
    ∷ unbegun 8 (at_t [] (fewer 7 4 S0)) 2
    ∷ unbegun 8 (at_t [] (fewer 8 3 S0)) 2
    ∷ begun (fewer 8 4 S0)
    ∷ unbegun 8 (shifted (fewer 7 4 S0)) 2
    ∷ silent (contracting (0 ∷ [])) (lent (state_of 7 0 [] 4 2) T (past []) (fewer 7 3 S0)) 1
    ∷ refusing (lent (state_of 7 0 [] 4 2) T (past []) (fewer 6 2 S0)) 1 0
    ∷ silent (contracting (0 ∷ [])) (at_t [] (fewer 7 4 S0)) 2
    ∷ silent (contracting (0 ∷ [])) (at_t [] (fewer 8 3 S0)) 2
    ∷ silent undoing (shifted (fewer 8 3 S0)) 2
    ∷ calls (contracting (0 ∷ 1 ∷ [])) (at_t [] (fewer 8 4 S0)) 0 0 0 (at_k5 h5 (fewer 8 4 S5)) 32
    -- "then 3 or 4": 2 comes before them, and before 16
    ∷ unbegun 8 (repeated (fewer 8 3 (trio (zone 1 nan) (half 2) (half 3) []))) 2
    ∷ unbegun 8 (at_t [] (fewer 7 4 many)) 2
    ∷ refusing (at_k5 h5 (fewer 7 4 wrong)) 2 0
    ∷ refusing (at_k5 h5 (fewer 8 3 wrong)) 2 0
    ∷ refusing (at_k5 h5 (fewer 8 4 wrong)) 4 32
    -- "among D places (the others are not looked at)", "nor are places past the count": sheets may be longer
    ∷ begun (longer 8 4 S0)
    ∷ calls (contracting (0 ∷ 1 ∷ [])) (at_t [] (longer 8 4 S0)) 0 0 0 (at_k5 h5 (longer 8 4 S5)) 32
    ∷ calls sweeping (at_k5 h5 (longer 8 4 S5)) 0 0 0 (at_k7 h7 (longer 8 4 S5)) 32
    ∷ calls (to_level 0) (at_k7 h7 (longer 8 4 S5)) 0 0 0 (at_t h7 (longer 8 4 back)) 32
    ∷ calls undoing (at_k5 h5 (longer 8 4 S5)) 0 0 0 (at_t h5 (longer 8 4 back)) 32
    ∷ refusing (at_k5 h5 (longer 8 4 wrong)) 4 32
    -- "4 also covers sheets that no accepted start and these operations give": a kept record is other, of its operation or of the one before it; a
    -- merged one, by a stitch, by a bit; one that was merged
    ∷ keeps undoing (at_k5 h5 wrong) 4 0
    ∷ keeps undoing (at_k5 h5 (trio six (half 2) (half 3) (half 1 ∷ zone 4 (fin false 1 (pos 0)) ∷ []))) 4 0
    ∷ keeps undoing (at_k5 h5 (trio (zone 7 (fin false 3 (negsuc 0))) (half 2) (half 3) kept5)) 4 0
    ∷ keeps sweeping (at_k5 h5 (trio (zone 6 (Ieee.of_bits binary64 4609434218613702657)) (half 2) (half 3) kept5)) 4 0
    ∷ keeps (to_level 1) (at_k5 h5 (trio (unmeasured 6) (half 2) (half 3) kept5)) 4 0
    ∷ keeps (removing (2 ∷ [])) (at_k5 h5 (trio six (half 1) (half 3) kept5)) 4 0
    -- a base's record past the limit: one that no operation merged, one that is kept
    ∷ keeps (removing (2 ∷ [])) (at_k5 h5 (sheets six (half 2) (half 3) (half 65536) kept5)) 4 0
    ∷ keeps undoing (at_k5 h5 (trio (zone 65541 (fin false 3 (negsuc 0))) (half 2) (half 3) (half 65536 ∷ zone 65538 (fin false 1 (pos 0)) ∷ []))) 4 0
    -- the two zeros are not the same, bit for bit
    ∷ keeps undoing (at_k5 h5 (trio (zone 6 (fin true 0 (pos 0))) (zero_metres 2) (zero_metres 3) (zero_metres 1 ∷ zero_metres 3 ∷ []))) 4 0
    -- 4 before 12, 5 and the kernel's edges
    ∷ keeps undoing (at_t [] many) 4 0
    ∷ keeps (to_level 9) (at_t [] many) 4 0
    ∷ keeps (contracting []) (at_t [] many) 4 0
    ∷ keeps (contracting (9 ∷ [])) (at_t [] many) 4 0
    -- sheets of T lent with no pyramid
    ∷ keeps undoing (lent (state 2 (2 ∷ []) 2 2) T (past h5) S5) 4 0
    -- 5, by a kernel and by a sweep; a refused kernel leaves both sheets, edges that were judged before the failing one too
    ∷ keeps (contracting []) (at_t [] S0) 5 0
    ∷ keeps sweeping (at_t [] S0) 5 0
    ∷ keeps (contracting (0 ∷ 4 ∷ [])) (at_t [] S0) 7 1
    ∷ keeps (contracting (0 ∷ 0 ∷ [])) (at_t [] S0) 8 1
    ∷ keeps (contracting (0 ∷ 1 ∷ 2 ∷ [])) (at_t [] S0) 9 2
    ∷ keeps (contracting (2 ∷ [])) (at_k5 h5 S5) 9 0
    ∷ keeps (removing (3 ∷ [])) (at_t [] S0) 10 0
    ∷ keeps (contracting (3 ∷ [])) (at_k7 h7 S5) 11 0
    -- "the last bits of metres depend on the order": (0.1 + 0.2) + 0.3 and 0.1 + (0.2 + 0.3); "Undo returns the old figure bit for bit"
    ∷ calls (contracting (0 ∷ 1 ∷ [])) (at_t [] tenths) 0 0 0 (at_k5 h5 tenths5) 32
    ∷ calls (contracting (1 ∷ 0 ∷ [])) (at_t [] tenths) 0 0 0 (at_k6 tenths6) 32
    ∷ calls undoing (at_k5 h5 tenths5) 0 0 0 (at_t h5 (trio (zone 1 m1) (zone 2 m2) (zone 3 m3) (zone 1 m1 ∷ zone 3 m3+ ∷ []))) 32
    ∷ calls undoing (at_k6 tenths6) 0 0 0 (at_t (5 ∷ 1 ∷ []) (trio (zone 1 m1) (zone 2 m2) (zone 3 m3) (zone 2 m2 ∷ zone 1 m1 ∷ []))) 32
    -- "Store both numbers in the state. Every operation and every undo keeps them right": K1, K5, K7, and back
    ∷ numbers 8 (at_t [] S0) [] 0 4 2
    ∷ numbers 8 (at_t [] S0) K5 0 2 2
    ∷ numbers 8 (at_t [] S0) K7 0 2 1
    ∷ numbers 8 (at_t [] S0) (K5 ++ (sweeping ∷ [])) 0 2 1
    ∷ numbers 8 (at_t [] S0) (K7 ++ (undoing ∷ [])) 0 2 2
    ∷ numbers 8 (at_t [] S0) (K7 ++ (to_level 0 ∷ [])) 0 4 2
    -- "A refused call hands back the state it was given."
    ∷ numbers 8 (at_t [] S0) (K5 ++ (contracting (2 ∷ []) ∷ [])) 9 2 2
    ∷ numbers 8 (at_t [] S0) (K7 ++ (to_level 3 ∷ [])) 12 2 1
    -- "A refused start or read, which was given none, hands back a state of zeros.": also where 16 is given
    ∷ numbers 7 (at_t [] S0) [] 1 0 0
    ∷ numbers 8 (at_t [] (fewer 7 4 S0)) [] 2 0 0
    ∷ numbers 8 (at_t [] (trio (half 1) (half 65536) (half 3) [])) [] 16 0 0
    -- "a state whose numbers differ from the cycles is no pyramid": a vertex too many, a face too many, a face for a vertex, those of another level
    ∷ refusing (misnumbered 5 2 (at_t [] S0)) 4 32
    ∷ refusing (misnumbered 4 3 (at_t [] S0)) 4 32
    ∷ refusing (misnumbered 5 1 (at_t [] S0)) 4 32
    ∷ refusing (misnumbered 4 2 (at_k5 h5 S5)) 4 32
    ∷ refusing (misnumbered 2 2 (at_k7 h7 S5)) 4 32
    -- "the order is unchanged": 2 comes first, for either sheet
    ∷ refusing (misnumbered 5 2 (at_t [] (fewer 7 4 S0))) 2 0
    ∷ refusing (misnumbered 5 2 (at_t [] (fewer 8 3 S0))) 2 0
    ∷ []

pub worked : all_right table ≡ true
unfolding partner meets_in successor face_next same_vertex same_face gone survives before_in before repeats culprit test_from permutation_test turned lead whole_edge remove contract operate number kind_of lead_of edge_of put_back undo_one undone shared judge pass_from pass run raised levelled reduce empty_loop takes rising swept_from swept sweep end_below lowered undo_level undo_levels unfold_to dart_count build kernel_of cut kernels_of same_numbers same_state is_exactly is_pyramid room fittingPlain table_of past_of over cleared work_after begins hands_back same_integer same_metres same_yarn same_zone low_into high_of merged returned merged_by returned_by last_into sound kept_sound kept_right sheet_right rightSheets lowest_from lowest is_place joins zoned merge_by merges_of merges given fitting fitting_of base_of judged unfit_from first_unfit begins_with start_with carried carried_to sheets_after on_sheets reduce_with sweep_with undo_with unfold_with Ieee.le Ieee.add Ieee.of_bits never_below lowestIn cycles counts_of
worked = refl

-- "subtracting does not do that": 0.1 + 0.2 less 0.2 is not 0.1, and the two orders of adding differ
pub subtracting : (same_metres (Ieee.add binary64 m1 m2) m3+ && (same_metres (Ieee.sub binary64 m3+ m2) m1+ && (not (same_metres m1+ m1)
    && not (same_metres m6+ m6)))) ≡ true
unfolding same_metres same_integer Ieee.add Ieee.sub Ieee.of_bits
subtracting = refl
