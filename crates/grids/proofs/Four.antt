-- A round of up to four, each there or not.
--   four r u l w a b c e  == those of a, b, c, e whose tests r, u, l, w pass
--   four_has              == what stands there
--   FourRound             == such a round is without repetition, and the one after each is the next that is there, round from it
--   four_round            == so it is where no two that are there are the same
use mathlib.Core.Bool.{Bool, true, false}
use mathlib.Core.List.{List, [], ◌∷◌, ◌++◌, append_assoc}
use mathlib.Core.Logic.Iff
use mathlib.Core.Logic.{◌≢◌, ◌↔◌, ◌⊎◌, ⊎_elim}
use mathlib.Core.Path.{◌≡◌, refl, sym, ◌∙◌}
use Prim.Native.Nat.{ℕ}
use lib.Dec.{T}
use lib.ListN.{get_or}
use Rattle.permutations.specs.Choice.{T→true, ⊎_iff}
use Rattle.std.proofs.Common.{if◌then◌else◌}
use Rattle.grids.specs.Base.{has, next_in}
use Rattle.grids.proofs.Next.{one, Distinct, has_append, has_one, distinct_one, next_after}

abbrev pub four : Bool → Bool → Bool → Bool → ℕ → ℕ → ℕ → ℕ → List ℕ
four r u l w a b c e = one r a ++ (one u b ++ (one l c ++ one w e))

not_one : (d : ℕ) (t : Bool) (x : ℕ) → (T t → x ≢ d) → ¬ T (has d (one t x))
not_one d t x n h = let k = (has_one d t x).0 h in n k.0 k.1

not_both : (d : ℕ) (p q : List ℕ) → ¬ T (has d p) → ¬ T (has d q) → ¬ T (has d (p ++ q))
not_both d p q m n h = ⊎_elim m n ((has_append d p q).0 h)

-- one that is not in the rest
before_rest : (t : Bool) (x : ℕ) (q : List ℕ) → (T t → ¬ T (has x q)) → Distinct q → Distinct (one t x ++ q)
before_rest true x q n m = (n tt, m)
before_rest false x q n m = m

pub four_has : (r u l w : Bool) (a b c e d : ℕ) → T (has d (four r u l w a b c e))
    ↔ ((T r × (a ≡ d)) ⊎ ((T u × (b ≡ d)) ⊎ ((T l × (c ≡ d)) ⊎ (T w × (e ≡ d)))))
four_has r u l w a b c e d =
    Iff.trans (has_append d (one r a) (one u b ++ (one l c ++ one w e))) (⊎_iff (has_one d r a)
    (Iff.trans (has_append d (one u b) (one l c ++ one w e)) (⊎_iff (has_one d u b)
    (Iff.trans (has_append d (one l c) (one w e)) (⊎_iff (has_one d l c) (has_one d w e))))))

pub record FourRound (r u l w : Bool) (a b c e : ℕ) : Type 0 where
  pub distinct : Distinct (four r u l w a b c e)
  pub first : T r → next_in a (four r u l w a b c e) ≡ (if u then b else if l then c else if w then e else a)
  pub second : T u → next_in b (four r u l w a b c e) ≡ (if l then c else if w then e else if r then a else b)
  pub third : T l → next_in c (four r u l w a b c e) ≡ (if w then e else if r then a else if u then b else c)
  pub fourth : T w → next_in e (four r u l w a b c e) ≡ (if r then a else if u then b else if l then c else e)

module _ (r u l w : Bool) (a b c e : ℕ) (ab : T r → a ≢ b) (ac : a ≢ c) (ae : a ≢ e) (bc : b ≢ c) (be : b ≢ e) (ce : T l → c ≢ e) where
  four_distinct : Distinct (four r u l w a b c e)
  four_distinct =
      before_rest r a (one u b ++ (one l c ++ one w e))
      (λ t. not_both a (one u b) (one l c ++ one w e) (not_one a u b (λ s k. ab t (sym k)))
      (not_both a (one l c) (one w e) (not_one a l c (λ s k. ac (sym k))) (not_one a w e (λ s k. ae (sym k)))))
      (before_rest u b (one l c ++ one w e)
      (λ t. not_both b (one l c) (one w e) (not_one b l c (λ s k. bc (sym k))) (not_one b w e (λ s k. be (sym k))))
      (before_rest l c (one w e) (λ t. not_one c w e (λ s k. ce t (sym k))) (distinct_one w e)))

  next_first : T r → next_in a (four r u l w a b c e) ≡ (if u then b else if l then c else if w then e else a)
  unfolding has
  next_first h = rw (T→true r h) (next_after a [] (one u b ++ (one l c ++ one w e)) (λ t. t) ∙ first u l w)
    where
      first : (u l w : Bool) → get_or ((one u b ++ (one l c ++ one w e)) ++ (a ∷ [])) 0 0 ≡ (if u then b else if l then c else if w then e else a)
      first true l w = refl
      first false true w = refl
      first false false true = refl
      first false false false = refl

  next_second : T u → next_in b (four r u l w a b c e) ≡ (if l then c else if w then e else if r then a else b)
  next_second h = rw (T→true u h) (next_after b (one r a) (one l c ++ one w e) (not_one b r a ab) ∙ second l w r)
    where
      second : (l w r : Bool) → get_or ((one l c ++ one w e) ++ (one r a ++ (b ∷ []))) 0 0 ≡ (if l then c else if w then e else if r then a else b)
      second true w r = refl
      second false true r = refl
      second false false true = refl
      second false false false = refl

  next_third : T l → next_in c (four r u l w a b c e) ≡ (if w then e else if r then a else if u then b else c)
  next_third h =
      rw (T→true l h, ← append_assoc (one r a) (one u b) (c ∷ one w e))
      (next_after c (one r a ++ one u b) (one w e) (not_both c (one r a) (one u b) (not_one c r a (λ t. ac)) (not_one c u b (λ t. bc))) ∙ third w r u)
    where
      third : (w r u : Bool) → get_or (one w e ++ ((one r a ++ one u b) ++ (c ∷ []))) 0 0 ≡ (if w then e else if r then a else if u then b else c)
      third true r u = refl
      third false true u = refl
      third false false true = refl
      third false false false = refl

  next_fourth : T w → next_in e (four r u l w a b c e) ≡ (if r then a else if u then b else if l then c else e)
  next_fourth h =
      rw (T→true w h, ← append_assoc (one u b) (one l c) (e ∷ []), ← append_assoc (one r a) (one u b ++ one l c) (e ∷ []))
      (next_after e (one r a ++ (one u b ++ one l c)) [] absent ∙ fourth r u l)
    where
      absent : ¬ T (has e (one r a ++ (one u b ++ one l c)))
      absent =
          not_both e (one r a) (one u b ++ one l c) (not_one e r a (λ t. ae))
          (not_both e (one u b) (one l c) (not_one e u b (λ t. be)) (not_one e l c ce))

      fourth : (r u l : Bool) → get_or ((one r a ++ (one u b ++ one l c)) ++ (e ∷ [])) 0 0 ≡ (if r then a else if u then b else if l then c else e)
      fourth true u l = refl
      fourth false true l = refl
      fourth false false true = refl
      fourth false false false = refl

  pub four_round : FourRound r u l w a b c e
  four_round = record { distinct = four_distinct; first = next_first; second = next_second; third = next_third; fourth = next_fourth }
