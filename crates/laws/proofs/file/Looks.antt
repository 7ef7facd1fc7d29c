-- How many bytes a scan has looked at: what follows them does not matter to it.
--   Look f b at from most slack == the scan f, on the bytes b from `at` on, is told by their first `upto`, at least `from` and at most `most` and `slack`;
--                               what it finds ends at most at `most` and at most `slack` before the last byte looked at
--   Stop b at upto a         == the fault a is told by the byte before `upto`: it is the wrong byte, or ends the line of a wrong value
--   LineEnd b upto           == the byte before `upto` is a line feed
--   look_after               == one scan after another
--   look_word, look_number, look_field == a word, a number, a field
--   field_end                == a field with a line feed after it ends its line
use mathlib.Core.List.{List, [], ◌∷◌}
use mathlib.Core.Path.{◌≡◌, refl, sym, ap, ◌∙◌}
use Prim.Native.Nat.{ℕ, zero, suc, ◌+◌, ◌-◌, ◌*◌, ◌<◌, ◌≤◌, min}
use native.Mathlib.Decide.{ℕ_discrete}
use native.Mathlib.Omega.{arith}
use lib.Dec.{T}
use lib.ListN.{length, get_or, take}
use lib.Seq.{take-take, get_or-take}
use Rattle.permutations.specs.Choice.{T?, T→true, not_T→false, eqb_same, eqb_other}
use Rattle.darts.specs.Answers.{Answer, answered}
use Rattle.darts.specs.Scan.{Scan, found, fault, after, byte_at, word, is_digit, number_on, number_at, field}
use Rattle.laws.proofs.file.Words.{after_found, same_found, fault≢found}

pub record LineEnd (b : List ℕ) (upto : ℕ) : Type 0 where
  pub last : ℕ
  pub next : upto ≡ suc last
  pub feed : byte_at b last ≡ 10

pub data Stop (b : List ℕ) (at upto : ℕ) (a : Answer) : Type 0 where
  wrong : (p : ℕ) → a ≡ answered 13 p → upto ≡ suc p → at ≤ p → Stop b at upto a
  flag : a ≡ answered 14 8 → upto ≡ 9 → Stop b at upto a
  empty : a ≡ answered 5 0 → LineEnd b upto → Stop b at upto a
  many : a ≡ answered 6 0 → LineEnd b upto → Stop b at upto a

abbrev pub Ended : {A : Type 0} → List ℕ → ℕ → ℕ → ℕ → ℕ → Scan A → Type 0
Ended b at upto most slack (found x end) = (upto ≤ end + slack) × ((end ≤ most) × (at ≤ end))
Ended b at upto most slack (fault a) = Stop b at upto a

pub record Look {A : Type 0} (f : List ℕ → Scan A) (b : List ℕ) (at from most slack : ℕ) : Type 0 where
  pub upto : ℕ
  pub begun : from ≤ upto
  pub few : upto ≤ most + slack
  pub same : (c : List ℕ) → take upto c ≡ take upto b → f c ≡ f b
  pub ended : Ended b at upto most slack (f b)

-- ---- the same bytes

pub same_less : (b c : List ℕ) (m n : ℕ) → m ≤ n → take n c ≡ take n b → take m c ≡ take m b
same_less b c m n h e = sym (take-take m n c h) ∙ ap (take m) e ∙ take-take m n b h

pub same_byte : (b c : List ℕ) (i n : ℕ) → i < n → take n c ≡ take n b → byte_at c i ≡ byte_at b i
unfolding byte_at
same_byte b c i n h e = sym (get_or-take n c i 256 h) ∙ ap (λ l. get_or l i 256) e ∙ get_or-take n b i 256 h

-- ---- one scan after another

stop_more : {b : List ℕ} {at at' upto : ℕ} {a : Answer} → at' ≤ at → Stop b at upto a → Stop b at' upto a
stop_more h (wrong p e k l) = wrong p e k (omega arith)
stop_more h (flag e k) = flag e k
stop_more h (empty e l) = empty e l
stop_more h (many e l) = many e l

-- an earlier start, fewer bytes asked for, more allowed
pub look_more : {A : Type 0} {f : List ℕ → Scan A} {b : List ℕ} {at at' from from' most most' slack : ℕ} → Look f b at from most slack → at' ≤ at → from' ≤ from
    → most ≤ most' → Look f b at' from' most' slack
look_more {A} {f} {b} {at} {at'} {most = most} {most'} {slack} L i h k = record {
  upto = L.upto;
  begun = omega (arith, L.begun);
  few = omega (arith, L.few);
  same = L.same;
  ended = more (f b) L.ended;
}
  where
    more : (r : Scan A) → Ended b at L.upto most slack r → Ended b at' L.upto most' slack r
    more (found x end) e = (e.0, (omega (arith, e.1.0), omega (arith, e.1.1)))
    more (fault a) e = stop_more i e

pub look_found : {A : Type 0} {x : A} {b : List ℕ} {at start from most slack : ℕ} → start ≤ at → from ≤ at → at ≤ most
    → Look (λ _. found x at) b start from most slack
look_found {at = at} i h k = record { upto = at; begun = h; few = omega arith; same = λ c e. refl; ended = (omega arith, (k, i)) }

pub look_fault : {A : Type 0} {a : Answer} {b : List ℕ} {upto at from most slack : ℕ} → from ≤ upto → upto ≤ most + slack → Stop b at upto a
    → Look {A = A} (λ _. fault a) b at from most slack
look_fault {upto = upto} h k s = record { upto = upto; begun = h; few = k; same = λ c e. refl; ended = s }

pub look_after : {A B : Type 0} {f : List ℕ → Scan A} {g : A → ℕ → List ℕ → Scan B} {b : List ℕ} {at from mid slack most slack' : ℕ}
    → Look f b at from mid slack → mid + slack ≤ most + slack'
    → ((x : A) (end : ℕ) → f b ≡ found x end → at ≤ end → end ≤ mid → Look (g x end) b end (end + slack) most slack')
    → Look (λ l. after (f l) (λ x at. g x at l)) b at from most slack'
look_after {A} {B} {f} {g} {b} {at} {from} {mid} {slack} {most} {slack'} L h rest = go (f b) refl L.ended
  where
    go : (r : Scan A) → f b ≡ r → Ended b at L.upto mid slack r → Look (λ l. after (f l) (λ x at. g x at l)) b at from most slack'
    go (found x end) k e =
        let G = look_more {at' = at} {from' = end + slack} {most' = most} (rest x end k e.1.1 e.1.0) e.1.1 (omega arith) (omega arith) in
        record {
          upto = G.upto;
          begun = omega (arith, L.begun, G.begun, e.0);
          few = G.few;
          same = λ c s. rw (L.same c (same_less b c L.upto G.upto (omega (arith, G.begun, e.0)) s), k) (G.same c s);
          ended = rw k G.ended;
        }
    go (fault a) k e = record {
      upto = L.upto;
      begun = L.begun;
      few = omega (arith, L.few);
      same = λ c s. rw (L.same c s, k);
      ended = rw k e;
    }

-- ---- a word

-- where the first byte of a word has been looked at
abbrev pub begin : List ℕ → ℕ → ℕ
begin [] at = at
begin (c ∷ w) at = suc at

begin_on : (w : List ℕ) (at : ℕ) → at ≤ begin w at
begin_on [] at = omega arith
begin_on (c ∷ w) at = omega arith

pub look_word : (w b : List ℕ) (at : ℕ) → Look (λ l. word w l at) b at (begin w at) (at + length w) 0
unfolding word
look_word [] b at = look_found (omega arith) (omega arith) (omega arith)
look_word (c ∷ w) b at = go (ℕ_discrete (byte_at b at) c) (look_word w b (suc at))
  where
    go : Dec (byte_at b at ≡ c) → Look (λ l. word w l (suc at)) b (suc at) (begin w (suc at)) (suc at + length w) 0
        → Look (λ l. word (c ∷ w) l at) b at (suc at) (at + suc (length w)) 0
    go (yes k) I =
        let J = look_more {at' = at} {from' = suc at} {most' = at + suc (length w)} I (omega arith) (begin_on w (suc at)) (omega arith) in
        record {
          upto = J.upto;
          begun = J.begun;
          few = J.few;
          same = λ d s. rw (same_byte b d at J.upto J.begun s, eqb_same k) (J.same d s);
          ended = rw (eqb_same k) J.ended;
        }
    go (no n) I = record {
      upto = suc at;
      begun = omega arith;
      few = omega arith;
      same = λ d s. rw (same_byte b d at (suc at) (omega arith) s, eqb_other n);
      ended = rw (eqb_other n) (wrong at refl refl (omega arith));
    }

-- ---- a number

pub look_digits : (n : ℕ) (b : List ℕ) (at x : ℕ) → Look (λ l. number_on n l at x) b at (at + min 1 n) (at + n) 1
unfolding number_on
look_digits zero b at x = look_found (omega arith) (omega arith) (omega arith)
look_digits (suc n) b at x = go (T? (is_digit (byte_at b at))) (look_digits n b (suc at) (10 * x + (byte_at b at - 48)))
  where
    go : Dec (T (is_digit (byte_at b at)))
        → Look (λ l. number_on n l (suc at) (10 * x + (byte_at b at - 48))) b (suc at) (suc at + min 1 n) (suc at + n) 1
        → Look (λ l. number_on (suc n) l at x) b at (at + min 1 (suc n)) (at + suc n) 1
    go (yes k) I =
        let J = look_more {at' = at} {from' = at + min 1 (suc n)} {most' = at + suc n} I (omega arith) (omega arith) (omega arith) in
        record {
          upto = J.upto;
          begun = J.begun;
          few = J.few;
          same = λ d s. rw (same_byte b d at J.upto (omega (arith, J.begun)) s, T→true (is_digit (byte_at b at)) k) (J.same d s);
          ended = rw (T→true (is_digit (byte_at b at)) k) J.ended;
        }
    go (no k) I = record {
      upto = suc at;
      begun = omega arith;
      few = omega arith;
      same = λ d s. rw (same_byte b d at (suc at) (omega arith) s, not_T→false (is_digit (byte_at b at)) k);
      ended = rw (not_T→false (is_digit (byte_at b at)) k) (omega arith, (omega arith, omega arith));
    }

pub look_number : (b : List ℕ) (at : ℕ) → Look (λ l. number_at l at) b at (suc at) (at + 5) 1
unfolding number_at
look_number b at = go (ℕ_discrete (byte_at b at) 48) (T? (is_digit (byte_at b at)))
  where
    first : (d : List ℕ) (n : ℕ) → suc at ≤ n → take n d ≡ take n b → byte_at d at ≡ byte_at b at
    first d n h s = same_byte b d at n h s

    go : Dec (byte_at b at ≡ 48) → Dec (T (is_digit (byte_at b at))) → Look (λ l. number_at l at) b at (suc at) (at + 5) 1
    go (yes z) t = record {
      upto = suc at;
      begun = omega arith;
      few = omega arith;
      same = λ d s. rw (first d (suc at) (omega arith) s, eqb_same z);
      ended = rw (eqb_same z) (omega arith, (omega arith, omega arith));
    }
    go (no z) (yes t) =
        let I = look_digits 5 b at 0 in
        record {
          upto = I.upto;
          begun = omega (arith, I.begun);
          few = I.few;
          same = λ d s. rw (first d I.upto (omega (arith, I.begun)) s, eqb_other z, T→true (is_digit (byte_at b at)) t) (I.same d s);
          ended = rw (eqb_other z, T→true (is_digit (byte_at b at)) t) I.ended;
        }
    go (no z) (no t) = record {
      upto = suc at;
      begun = omega arith;
      few = omega arith;
      same = λ d s. rw (first d (suc at) (omega arith) s, eqb_other z, not_T→false (is_digit (byte_at b at)) t);
      ended = rw (eqb_other z, not_T→false (is_digit (byte_at b at)) t) (wrong at refl refl (omega arith));
    }

-- ---- a field

-- a number, and the word after it, which tells where the number ends
pub look_tail : (c : ℕ) (e b : List ℕ) (at : ℕ) → Look (λ l. after (number_at l at) (λ x at. after (word (c ∷ e) l at) (λ _ at. found x at))) b at (suc at)
    (at + 5 + length (c ∷ e)) 0
look_tail c e b at =
    look_after (look_number b at) (omega arith) (λ x next _ i k.
    look_after (look_more {most' = next + length (c ∷ e)} (look_word (c ∷ e) b next) (omega arith) (omega arith) (omega arith)) (omega arith) (λ _ last _ j h.
    look_found (omega arith) (omega arith) (omega arith)))

pub look_field : (w : List ℕ) (c : ℕ) (e b : List ℕ) (at : ℕ)
    → Look (λ l. field w (c ∷ e) l at) b at (begin w at) (at + length w + 5 + length (c ∷ e)) 0
unfolding field
look_field w c e b at =
    look_after (look_word w b at) (omega arith) (λ _ mid _ i m. look_more (look_tail c e b mid) (omega arith) (omega arith) (omega arith))

-- a field that was found before a line feed ends its line
feed_end : (b : List ℕ) (at : ℕ) {x end : ℕ} → word (10 ∷ []) b at ≡ found x end → LineEnd b end
unfolding word
feed_end b at {x} {end} e = go (ℕ_discrete (byte_at b at) 10)
  where
    go : Dec (byte_at b at ≡ 10) → LineEnd b end
    go (yes k) = same_found (λ _ end. LineEnd b end) (rw (eqb_same k) at e) (record { last = at; next = refl; feed = k })
    go (no n) = absurd (fault≢found (rw (eqb_other n) at e))

pub field_end : (w b : List ℕ) (at : ℕ) {x end : ℕ} → field w (10 ∷ []) b at ≡ found x end → LineEnd b end
unfolding field
field_end w b at e =
    after_found (word w b at) _ e (λ _ mid _ rest.
    after_found (number_at b mid) _ rest (λ x next _ rest.
    after_found (word (10 ∷ []) b next) _ rest (λ _ last third rest.
    same_found (λ _ end. LineEnd b end) rest (feed_end b next third))))
