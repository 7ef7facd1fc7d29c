-- The file's own numbers of the darts (document 01, "The file").
--   Numbering D past == what `fileNumber` gives: a bijection of the darts, by "the p and q of operation t, t from 1, become 2t-2 and 2t-1; surviving edges
--                       follow by rising number, each even dart staying even"
--   order_length, order_small, number_below == the file's order has D places, each holds a dart, and each dart has one of them
use mathlib.Core.List.Memᴰ
use mathlib.Core.List.{List, [], ◌∷◌, ◌++◌, reverse, Memᴰ}
use mathlib.Core.Logic.{inl, inr, ⊎_elim}
use mathlib.Core.Path.{◌≡◌, sym, ap, ◌∙◌, subst}
use Prim.Native.Nat.{ℕ, ◌+◌, ◌*◌, ◌/◌, ◌%◌, ◌<◌}
use native.Mathlib.Omega.{arith}
use lib.Dec.{T, T_not, not_T}
use lib.ListN.{length, get_or, length-append, length-reverse, get_or-append}
use lib.Seq.{get_or-append-add}
use Rattle.permutations.specs.Choice.{T?}
use Rattle.permutations.specs.Partner.{partner, End}
use Rattle.permutations.proofs.PartnerLemmas.{partner_ne, partner_below, partner_first}
use Rattle.darts.specs.Map.{gone, survives}
use Rattle.darts.specs.Operation.{lead_of}
use Rattle.darts.specs.Counts.{surviving}
use Rattle.darts.specs.State.{State}
use Rattle.darts.specs.Pyramid.{Pyramid}
use Rattle.darts.specs.File.{taken, survivors, file_order, file_number}
use Rattle.laws.proofs.bridge.Standing.{live, live_iff}
use Rattle.darts.specs.Tests.{numbered}
use Rattle.laws.proofs.tests.Fits.{numbered_iff}
use Rattle.laws.proofs.bridge.StandsBy.{live_partner}
use Rattle.laws.proofs.tests.Passes.{pyramid_shaped}
use Rattle.laws.proofs.file.Places.{Once, Paired, placed, get_d_mem, place_again, once_append, paired_append, partner_beside, all_places}
use Rattle.laws.proofs.file.Renamed.{Renaming}
use Rattle.laws.proofs.file.FileOrder.{pair_iff, taken_last, taken_length, taken_lead, taken_paired, taken_iff, survivors_iff, survivors_once, survivor_place, surviving_rises, survivors_paired, surviving_parity}

pub record Numbering (D : ℕ) (past : List ℕ) : Type 0 where
  pub renaming : Renaming D (file_order D past) (file_number D past)
  -- "the p and q of operation t, t from 1, become 2t-2 and 2t-1"
  pub p : (i : ℕ) → i < length past → file_number D past (lead_of (get_or (reverse past) i 0)) ≡ 2 * i
  pub q : (i : ℕ) → i < length past → file_number D past (partner (lead_of (get_or (reverse past) i 0))) ≡ 2 * i + 1
  -- "surviving edges follow by rising number": after the darts of the operations come as many survivors as are below it
  pub survivor : (d : ℕ) → d < D → T (survives past d) → file_number D past d ≡ 2 * length past + surviving past d
  pub rising : (d e : ℕ) → d < e → e < D → T (survives past d) → T (survives past e) → file_number D past d < file_number D past e
  -- "each even dart staying even"
  pub parity : (d : ℕ) → d < D → T (survives past d) → file_number D past d % 2 ≡ d % 2

-- ---- each dart once

gone_dies : (past : List ℕ) (x : ℕ) → T (gone past x) → ¬ T (survives past x)
unfolding survives
gone_dies past x g s = T_not (gone past x) s g

module _ (D : ℕ) (even : D % 2 ≡ 0) where
  -- both darts of an edge live
  end_lives : (past : List ℕ) {p x : ℕ} → T (live D past p) → End p x → (x < D) × T (survives past x)
  end_lives past {p} l (inl e) = (live_iff D past _).0 (subst (λ y. T (live D past y)) (sym e) l)
  end_lives past {p} l (inr e) = (live_iff D past _).0 (subst (λ y. T (live D past y)) (sym e) (rw (live_partner D past even p) l))

  taken_small : (past : List ℕ) → T (numbered D past) → (x : ℕ) → Memᴰ x (taken (reverse past)) → x < D
  unfolding taken
  taken_small [] L x m = absurd (Memᴰ.not-nil m)
  taken_small (h ∷ past) L x m =
      let (lives, rest) = (numbered_iff D h past).0 L in
      ⊎_elim (taken_small past rest x) (λ r. (end_lives past lives ((pair_iff (lead_of h) x).0 r)).0)
      (Memᴰ.append_cases (taken (reverse past)) (subst (Memᴰ x) (taken_last h past) m))

  taken_once : (past : List ℕ) → T (numbered D past) → Once (taken (reverse past))
  unfolding taken
  taken_once [] L = tt
  taken_once (h ∷ past) L =
      let p = lead_of h in
      let (lives, rest) = (numbered_iff D h past).0 L in
      rw (taken_last h past) (once_append (taken (reverse past)) (p ∷ partner p ∷ []) (taken_once past rest)
      (λ m. partner_ne p (Memᴰ.eq_of_singleton m), (Memᴰ.not-nil, tt))
      (λ x m n. gone_dies past x ((taken_iff past x).1 m) (end_lives past lives ((pair_iff p x).0 n)).1))

module _ (D : ℕ) (past : List ℕ) (even : D % 2 ≡ 0) (L : T (numbered D past)) where
  order_once : Once (file_order D past)
  unfolding file_order
  order_once =
      once_append (taken (reverse past)) (survivors past D) (taken_once D even past L) (survivors_once past D)
      (λ x m n. gone_dies past x ((taken_iff past x).1 m) ((survivors_iff past D x).0 n).1)

  pub order_small : (x : ℕ) → Memᴰ x (file_order D past) → x < D
  unfolding file_order
  order_small x m = ⊎_elim (taken_small D even past L x) (λ n. ((survivors_iff past D x).0 n).0) (Memᴰ.append_cases (taken (reverse past)) m)

  order_all : (x : ℕ) → x < D → Memᴰ x (file_order D past)
  unfolding file_order survives
  order_all x h = go (T? (gone past x))
    where
      go : Dec (T (gone past x)) → Memᴰ x (taken (reverse past) ++ survivors past D)
      go (yes g) = Memᴰ.append_left (survivors past D) ((taken_iff past x).0 g)
      go (no n) = Memᴰ.append_right (taken (reverse past)) ((survivors_iff past D x).1 (h, not_T (gone past x) n))

  pub order_length : length (file_order D past) ≡ D
  order_length = all_places D (file_order D past) order_once order_small order_all

  order_parts : 2 * length past + length (survivors past D) ≡ D
  unfolding file_order
  order_parts =
      let e = order_length in
      let l = length-append (taken (reverse past)) (survivors past D) in
      let n = length-reverse past in
      let m = taken_length (reverse past) in
      omega arith

  order_paired : Paired (file_order D past)
  unfolding file_order
  order_paired =
      let half : D ≡ 2 * (D / 2) = omega arith in
      paired_append (taken (reverse past)) (survivors past D) (taken_paired (reverse past))
      (subst (λ n. Paired (survivors past n)) (sym half) (survivors_paired past (D / 2)))

  -- a dart's number is its place
  place_number : (i : ℕ) → i < D → file_number D past (get_or (file_order D past) i 0) ≡ i
  unfolding file_number
  place_number i h = place_again (file_order D past) order_once i (rw order_length h)

  lead_at : (i : ℕ) → i < length past → get_or (file_order D past) (2 * i) 0 ≡ lead_of (get_or (reverse past) i 0)
  unfolding file_order
  lead_at i h =
      let n = length-reverse past in
      let m = taken_length (reverse past) in
      get_or-append (taken (reverse past)) (survivors past D) 0 (2 * i) (omega arith) ∙ taken_lead (reverse past) i (omega arith)

  survivor_at : (d : ℕ) → d < D → T (survives past d) → get_or (file_order D past) (2 * length past + surviving past d) 0 ≡ d
  unfolding file_order
  survivor_at d h s =
      let n : 2 * length past ≡ length (taken (reverse past)) = let n = length-reverse past in let m = taken_length (reverse past) in omega arith in
      rw n (get_or-append-add (taken (reverse past)) (survivors past D) (surviving past d) 0 ∙ (survivor_place past D d h s).1)

  pub number_below : (d : ℕ) → d < D → file_number D past d < D
  unfolding file_number
  number_below d h = let e = order_length in omega (arith, (placed (order_all d h)).inside)

  dart_back : (d : ℕ) → d < D → get_or (file_order D past) (file_number D past d) 0 ≡ d
  unfolding file_number
  dart_back d h = (placed (order_all d h)).there

  -- the dart beside is the partner
  beside : (d : ℕ) → d < D → get_or (file_order D past) (partner (file_number D past d)) 0 ≡ partner d
  beside d h = partner_beside (file_order D past) order_paired (file_number D past d) (rw order_length (number_below d h)) ∙ ap partner (dart_back d h)

  survivor_number : (d : ℕ) → d < D → T (survives past d) → file_number D past d ≡ 2 * length past + surviving past d
  survivor_number d h s =
      let small : 2 * length past + surviving past d < D = let e = order_parts in omega (arith, (survivor_place past D d h s).0) in
      ap (file_number D past) (sym (survivor_at d h s)) ∙ place_number (2 * length past + surviving past d) small

  renaming : Renaming D (file_order D past) (file_number D past)
  renaming = record {
    count = order_length;
    below = number_below;
    back = dart_back;
    dart = λ i h. order_small (get_or (file_order D past) i 0) (get_d_mem (file_order D past) i (rw order_length h));
    forth = place_number;
    partners = λ d h.
        ap (file_number D past) (sym (beside d h)) ∙ place_number (partner (file_number D past d)) (partner_below D (file_number D past d) (number_below d h) even);
  }

  module _ (i : ℕ) (h : i < length past) where
    low : 2 * i < D
    low = let e = order_parts in omega arith

    lead_number : file_number D past (lead_of (get_or (reverse past) i 0)) ≡ 2 * i
    lead_number = ap (file_number D past) (sym (lead_at i h)) ∙ place_number (2 * i) low

    lead_below : lead_of (get_or (reverse past) i 0) < D
    lead_below = rw (← lead_at i h) (renaming.dart (2 * i) low)

    partner_number : file_number D past (partner (lead_of (get_or (reverse past) i 0))) ≡ 2 * i + 1
    partner_number = renaming.partners (lead_of (get_or (reverse past) i 0)) lead_below ∙ ap partner lead_number ∙ partner_first i

  -- THE FILE'S NUMBERS
  numbering : Numbering D past
  numbering = record {
    renaming = renaming;
    p = lead_number;
    q = partner_number;
    survivor = survivor_number;
    rising = λ d e l h s z.
        let a = survivor_number d (omega arith) s in
        let b = survivor_number e h z in
        let r = surviving_rises past d e l s in
        omega arith;
    parity = λ d h s. let e = survivor_number d h s in let p = surviving_parity past d s in omega arith;
  }

-- EVERY PYRAMID'S FILE HAS SUCH NUMBERS
pub pyramid_numbering : {s : State} {t past : List ℕ} → Pyramid s t past → Numbering s.darts past
pyramid_numbering {s} {t} {past} P = let Q = (pyramid_shaped P).sound in numbering s.darts past Q.standing.even Q.numbers
