-- A key gives its topic back, and a topic its key.
use mathlib.Core.Path.{◌≡◌, refl, sym, ap, ap₂, ◌∙◌}
use mathlib.Core.Bool.{Bool, true, false}
use mathlib.Core.List.{List}
use mathlib.Mathlib.Data.Bool.Basic.{and_elim_left, and_elim_right}
use Prim.Native.Nat.{ℕ, ◌+◌, ◌*◌, ◌-◌, ◌/◌, ◌%◌, ◌<◌}
use native.Mathlib.Nat.{div-add-mod', div-div-eq-div-mul}
use native.Mathlib.Omega.{arith}
use borrow.Author.Tests.{eqb-true, eqb-false, eq-eqb, ne_eqb}
use lib.Dec.{eqb}
use Rattle.id_map.specs.Layout.{key_at, next_at, time_at, key_of, topic_of_key, slot_at}
use Rattle.rules.specs.Map.{Topic, free, used, same_topic, is_of, is_free}
use Rattle.rules.specs.Tests.{pick}

-- `omega` finds no remainder of a quotient in one step: the quotients are stated first
pub topic-key : (k : Topic) → k.type < 65536 → k.destination < 128 → topic_of_key (key_of k) ≡ k
unfolding key_of topic_of_key
topic-key k ht hd =
    let n = (k.transfer_type * 65536 + k.type) * 256 + (k.destination * 2 + 1) in
    let e₁ : n / 16777216 ≡ k.transfer_type = omega arith in
    let q : n / 256 ≡ k.transfer_type * 65536 + k.type = omega arith in
    let e₂ : n / 256 % 65536 ≡ k.type = rw q (omega arith) in
    let r : n / 2 ≡ (k.transfer_type * 65536 + k.type) * 128 + k.destination = omega arith in
    let d : n / 2 % 128 ≡ k.destination = rw r (omega arith) in
    let o : n % 2 ≡ 1 = omega arith in
    let e₃ : n / 2 % 128 + 128 * (1 - n % 2) ≡ k.destination = omega arith in
    λ i. record { transfer_type = e₁ i; type = e₂ i; destination = e₃ i }

pub key-topic : (k : ℕ) → k % 2 ≡ 1 → key_of (topic_of_key k) ≡ k
unfolding key_of topic_of_key
key-topic k h =
    let t : k / 256 % 65536 ≡ k / 256 - k / 16777216 * 65536 = omega arith in
    let d : k / 2 % 128 ≡ k / 2 - k / 256 * 128 = omega arith in
    omega arith

pub key-some : (k : Topic) → key_of k ≡ 0 → ⊥
unfolding key_of
key-some k e = omega arith

-- keys are equal exactly if their topics are the same
same_refl : (k : Topic) → same_topic k k ≡ true
unfolding same_topic
same_refl k = rw (eq-eqb k.transfer_type k.transfer_type refl, eq-eqb k.type k.type refl, eq-eqb k.destination k.destination refl)

-- a quotient and a remainder fix a number
join : (n a b : ℕ) → a / n ≡ b / n → a % n ≡ b % n → a ≡ b
join n a b q r = sym (div-add-mod' a n) ∙ ap₂ (λ x y. x * n + y) q r ∙ div-add-mod' b n

module _ (x p y q : ℕ) (hx : x < 128) (hy : y < 128) (hp : p < 2) (hq : q < 2) (e : x + 128 * (1 - p) ≡ y + 128 * (1 - q)) where
  low : x ≡ y
  low = omega arith

  parity : p ≡ q
  parity = omega arith

key-eq : (a b : ℕ) → same_topic (topic_of_key a) (topic_of_key b) ≡ true → a ≡ b
unfolding same_topic topic_of_key
key-eq a b e =
    let e' = and_elim_right (eqb (a / 16777216) (b / 16777216)) _ e in
    let k = eqb-true (a / 16777216) (b / 16777216) (and_elim_left _ _ e) in
    let t = eqb-true (a / 256 % 65536) (b / 256 % 65536) (and_elim_left _ _ e') in
    let d = eqb-true (a / 2 % 128 + 128 * (1 - a % 2)) (b / 2 % 128 + 128 * (1 - b % 2)) (and_elim_right (eqb (a / 256 % 65536) (b / 256 % 65536)) _ e') in
    let l = low (a / 2 % 128) (a % 2) (b / 2 % 128) (b % 2) (omega arith) (omega arith) (omega arith) (omega arith) d in
    let o = parity (a / 2 % 128) (a % 2) (b / 2 % 128) (b % 2) (omega arith) (omega arith) (omega arith) (omega arith) d in
    join 2 a b (join 128 (a / 2) (b / 2) (by 2 128 256 refl (join 65536 (a / 256) (b / 256) (by 256 65536 16777216 refl k) t)) l) o
  where
    by : (n k nk : ℕ) → n * k ≡ nk → a / nk ≡ b / nk → a / n / k ≡ b / n / k
    by n k nk q h = div-div-eq-div-mul a n k ∙ ap (λ (x : ℕ). a / x) q ∙ h ∙ sym (div-div-eq-div-mul b n k ∙ ap (λ (x : ℕ). b / x) q)

pub same_key : (a b : ℕ) → same_topic (topic_of_key a) (topic_of_key b) ≡ eqb a b
same_key a b = go (eqb a b) refl (same_topic (topic_of_key a) (topic_of_key b)) refl where
  go : (t : Bool) → eqb a b ≡ t → (s : Bool) → same_topic (topic_of_key a) (topic_of_key b) ≡ s → s ≡ t
  go true e s q = sym q ∙ ap (λ (k : ℕ). same_topic (topic_of_key a) (topic_of_key k)) (sym (eqb-true a b e)) ∙ same_refl (topic_of_key a)
  go false e true q = absurd (eqb-false a b e (key-eq a b q))
  go false e false q = refl

-- ── what a place holds, by its key ──

module _ (m : List ℕ) (i : ℕ) where
  pub of-key : (k : ℕ) → (k ≡ 0 → ⊥) → is_of (topic_of_key k) (slot_at m i) ≡ eqb (key_at m i) k
  unfolding slot_at
  of-key k z = go (eqb (key_at m i) 0) refl where
    go : (b : Bool) → eqb (key_at m i) 0 ≡ b → is_of (topic_of_key k) (pick b free (used (topic_of_key (key_at m i)) (next_at m i) (time_at m i))) ≡ eqb (key_at m i) k
    go true e = sym (ne_eqb (key_at m i) k (λ q. z (sym q ∙ eqb-true (key_at m i) 0 e)))
    go false e = same_key (key_at m i) k

  pub free-key : is_free (slot_at m i) ≡ eqb (key_at m i) 0
  unfolding slot_at
  free-key = go (eqb (key_at m i) 0) where
    go : (b : Bool) → is_free (pick b free (used (topic_of_key (key_at m i)) (next_at m i) (time_at m i))) ≡ b
    go true = refl
    go false = refl

  pub slot-used : (key_at m i ≡ 0 → ⊥) → slot_at m i ≡ used (topic_of_key (key_at m i)) (next_at m i) (time_at m i)
  unfolding slot_at
  slot-used z = rw (ne_eqb (key_at m i) 0 z)

  pub slot-free : key_at m i ≡ 0 → slot_at m i ≡ free
  unfolding slot_at
  slot-free z = rw (eq-eqb (key_at m i) 0 z)
