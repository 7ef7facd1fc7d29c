-- Entries that rise by two, laid.
--   risen_length == no number is added
--   risen_lays   == laid after the entries of T up to e, they are its entries up to e + n
--   stays        == no edge is laid
--   laying_run   == so many edges more of a row
use mathlib.Core.List.{List, ◌++◌}
use mathlib.Core.Path.{◌≡◌, refl, ◌∙◌}
use Prim.Native.Nat.{ℕ, zero, suc, ◌+◌, ◌*◌, ◌≤◌, ◌<◌}
use native.Mathlib.Nat.{add-zero, suc-mul, mul_comm, mul-le-mul_right}
use native.Mathlib.Omega.{arith}
use lib.ListN.{length, get_or, set, take, drop, length-set}
use Rattle.plans.specs.Rising.{risen, Rises, Ran}
use Rattle.plans.proofs.Entries.{Laying, one_more}

pub risen_length : (e n r l : ℕ) (t : List ℕ) → length (risen e n r l t) ≡ length t
unfolding risen
risen_length e zero r l t = refl
risen_length e (suc n) r l t =
    risen_length (e + 1) n (r + 2) (l + 2) (set (set t (2 * e) r) (2 * e + 1) l) ∙ length-set (set t (2 * e) r) (2 * e + 1) l ∙ length-set t (2 * e) r

first : {T : List ℕ} {e n r l : ℕ} → Rises T e (suc n) r l → (r ≡ get_or T (2 * e) 0) × (l ≡ get_or T (2 * e + 1) 0)
first {T} {e} {n} {r} {l} p =
    let a : e + 0 ≡ e = omega arith in
    let b : r + 2 * 0 ≡ r = omega arith in
    let d : l + 2 * 0 ≡ l = omega arith in
    (rw (a, b) at (p.even 0 (omega arith)), rw (a, d) at (p.odd 0 (omega arith)))

rest : {T : List ℕ} {e n r l : ℕ} → Rises T e (suc n) r l → Rises T (e + 1) n (r + 2) (l + 2)
rest {T} {e} {n} {r} {l} p = record { even = λ i h. (go i h).0; odd = λ i h. (go i h).1 }
  where
    go : (i : ℕ) → i < n → (r + 2 + 2 * i ≡ get_or T (2 * (e + 1 + i)) 0) × (l + 2 + 2 * i ≡ get_or T (2 * (e + 1 + i) + 1) 0)
    go i h =
        let a : e + 1 + i ≡ e + (i + 1) = omega arith in
        let b : r + 2 + 2 * i ≡ r + 2 * (i + 1) = omega arith in
        let d : l + 2 + 2 * i ≡ l + 2 * (i + 1) = omega arith in
        (rw (a, b) (p.even (i + 1) (omega arith)), rw (a, d) (p.odd (i + 1) (omega arith)))

pub risen_lays : (T to₀ to : List ℕ) (e n r l : ℕ) → 2 * (e + n) ≤ length T → length T ≤ length to₀ → Rises T e n r l → to ≡ take (2 * e) T ++ drop (2 * e) to₀
    → risen e n r l to ≡ take (2 * (e + n)) T ++ drop (2 * (e + n)) to₀
unfolding risen
risen_lays T to₀ to e zero r l fits long p s = rw (add-zero e) s
risen_lays T to₀ to e (suc n) r l fits long p s =
    let (a, b) = first p in
    let i : 2 * (e + 1) ≡ 2 * e + 1 + 1 = omega arith in
    let k : e + suc n ≡ e + 1 + n = omega arith in
    let two : set (set to (2 * e) r) (2 * e + 1) l ≡ take (2 * (e + 1)) T ++ drop (2 * (e + 1)) to₀
    = rw i (one_more T to₀ (2 * e + 1) (omega arith) long (one_more T to₀ (2 * e) (omega arith) long s a) b) in
    rw k (risen_lays T to₀ (set (set to (2 * e) r) (2 * e + 1) l) (e + 1) n (r + 2) (l + 2) (omega arith) long (rest p) two)

pub stays : (T : List ℕ) (e : ℕ) (t : List ℕ) → Ran T e 0 t t
unfolding risen
stays T e t = record { even = 0; odd = 0; rises = record { even = λ i h. absurd (omega arith); odd = λ i h. absurd (omega arith) }; same = refl }

pub laying_run : {T : List ℕ} {first row rows : ℕ} {to₀ to u : List ℕ} {e x y n : ℕ} → 2 * (first + row * rows) ≤ length T → length T ≤ length to₀
    → Laying T first row rows to₀ to e x y → y < rows → x + n < row → Ran T e n to u → Laying T first row rows to₀ u (e + n) (x + n) y
laying_run {T} {first} {row} {rows} {to₀} {to} {u} {e} {x} {y} {n} fits long l j h r =
    let next : suc y ≤ rows = j in
    let below = mul-le-mul_right row next in
    let m = suc-mul y row in
    let k = mul_comm row rows in
    let bound : e + n ≤ first + row * rows = omega (arith, l.place) in
    record {
      size = rw r.same (risen_length e n r.even r.odd to ∙ l.size);
      place = omega (arith, l.place);
      inside = λ _. h;
      narrow = omega arith;
      low = l.low;
      bound = bound;
      same = rw r.same (risen_lays T to₀ to e n r.even r.odd (omega arith) long r.rises l.same);
    }
