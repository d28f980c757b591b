-- What is read of a state, what is written, and the tests.
use mathlib.Core.Path.{◌≡◌, refl, sym, ap, ap₂, ◌∙◌}
use mathlib.Core.Bool.{true, false, ◌&&◌}
use mathlib.Core.List.{List}
use mathlib.Mathlib.Data.Bool.Basic.{and_elim_left, and_elim_right}
use Prim.Native.Nat.{ℕ, ◌+◌, ◌-◌, ◌/◌, ◌%◌, ◌≤◌, ◌<◌}
use native.Mathlib.Omega.{arith}
use borrow.Author.Tests.{lt-ltb, le-leb, lt-leb, leb-true, eq-eqb, ne_eqb}
use lib.Dec.{leb}
use lib.ListN.{length, get_or, set, length-set}
use Rattle.bits.specs.Little.{le, le_bytes}
use Rattle.bits.specs.Part.{span, splice}
use Rattle.bits.proofs.Little.{length-le_bytes}
use Rattle.bits.proofs.Splice.{length-splice}
use Rattle.allocatee.specs.Layout.{unique_at, preferred_at, node_at, pending_at, since_at, period_at, delay_at, size, preferred_of, node_of, pending_of, since_of, period_of, delay_of, follow_up_due, request_due, wait_of, sound_state, with_node, with_pending, with_timer, fresh}
use Rattle.allocatee.specs.Limits.{unique_id_max, node_max, period_min, spread}

-- ── reading ──

module _ (m : List ℕ) where
  pub node-is : get_or m node_at 0 ≡ node_of m
  unfolding node_of
  node-is = refl

  pub preferred-is : get_or m preferred_at 0 ≡ preferred_of m
  unfolding preferred_of
  preferred-is = refl

  pub pending-is : get_or m pending_at 0 ≡ pending_of m
  unfolding pending_of
  pending-is = refl

  pub period-is : (k : ℕ) → k ≡ le (span m period_at 4) → period_min + k % spread ≡ period_of m
  unfolding period_of
  period-is k e = ap (λ (x : ℕ). period_min + x % spread) e

  pub delay-is : (k : ℕ) → k ≡ le (span m delay_at 4) → k % spread ≡ delay_of m
  unfolding delay_of
  delay-is k e = ap (λ (x : ℕ). x % spread) e

  module _ (t s : ℕ) (e : s ≡ le (span m since_at 8)) where
    pub age-none : t ≤ s → 0 ≡ t - since_of m
    unfolding since_of
    age-none h = omega arith

    pub age-some : t - s ≡ t - since_of m
    unfolding since_of
    age-some = ap (λ (x : ℕ). t - x) e

  -- ── what is due ──

  module _ (t p : ℕ) (is : p ≡ pending_of m) where
    pub none-due : p ≡ 0 → false ≡ follow_up_due m t
    unfolding follow_up_due
    none-due z = let e : pending_of m ≡ 0 = sym is ∙ z in rw e

    pub some-due : (p ≡ 0 → ⊥) → (x y : ℕ) → x ≡ delay_of m → y ≡ t - since_of m → leb x y ≡ follow_up_due m t
    unfolding follow_up_due
    some-due n x y ex ey = let l : 0 < pending_of m = omega arith in rw (lt-ltb 0 (pending_of m) l) (ap₂ leb ex ey)

    pub wait-request : p ≡ 0 → (x y r : ℕ) → x ≡ period_of m → y ≡ t - since_of m → r ≡ x - y → r ≡ wait_of m t
    unfolding wait_of
    wait-request z x y r ex ey er = rw (eq-eqb (pending_of m) 0 (sym is ∙ z)) (er ∙ ap₂ (λ (a b : ℕ). a - b) ex ey)

    pub wait-follow-up : (p ≡ 0 → ⊥) → (x y r : ℕ) → x ≡ delay_of m → y ≡ t - since_of m → r ≡ x - y → r ≡ wait_of m t
    unfolding wait_of
    wait-follow-up n x y r ex ey er = rw (ne_eqb (pending_of m) 0 (λ e. n (is ∙ e))) (er ∙ ap₂ (λ (a b : ℕ). a - b) ex ey)

  pub is-request-due : (t x y : ℕ) → x ≡ period_of m → y ≡ t - since_of m → leb x y ≡ request_due m t
  unfolding request_due
  is-request-due t x y ex ey = ap₂ leb ex ey

-- ── the test, fault by fault ──

module _ (m : List ℕ) where
  pub fault-short : length m < size → false ≡ sound_state m
  unfolding sound_state
  fault-short h = rw (lt-leb size (length m) h)

  module _ (h : size ≤ length m) (p : ℕ) (ep : p ≡ preferred_of m) where
    pub fault-preferred : node_max < p → false ≡ sound_state m
    unfolding sound_state
    fault-preferred l = rw (le-leb size (length m) h, lt-leb (preferred_of m) node_max (rw (← ep) l))

    module _ (l : p ≤ node_max) (n : ℕ) (en : n ≡ node_of m) where
      pub fault-node : node_max < n → false ≡ sound_state m
      unfolding sound_state
      fault-node k = rw (le-leb size (length m) h, le-leb (preferred_of m) node_max (rw (← ep) l), lt-leb (node_of m) node_max (rw (← en) k))

      pub by-pending : n ≤ node_max → (s : ℕ) → s ≡ pending_of m → leb s unique_id_max ≡ sound_state m
      unfolding sound_state
      by-pending k s es =
          rw (le-leb size (length m) h, le-leb (preferred_of m) node_max (rw (← ep) l), le-leb (node_of m) node_max (rw (← en) k)) (ap (λ (x : ℕ). leb x unique_id_max) es)

module _ (m : List ℕ) (fine : sound_state m ≡ true) where
  pub long-enough : size ≤ length m
  unfolding sound_state
  long-enough = leb-true size (length m) (and_elim_left _ _ fine)

  later : (leb (preferred_of m) node_max && (leb (node_of m) node_max && leb (pending_of m) unique_id_max)) ≡ true
  unfolding sound_state
  later = and_elim_right (leb size (length m)) _ fine

  pub preferred-small : preferred_of m ≤ node_max
  preferred-small = leb-true (preferred_of m) node_max (and_elim_left _ _ later)

  last : (leb (node_of m) node_max && leb (pending_of m) unique_id_max) ≡ true
  last = and_elim_right (leb (preferred_of m) node_max) _ later

  pub node-small : node_of m ≤ node_max
  node-small = leb-true (node_of m) node_max (and_elim_left _ _ last)

  pub pending-small : pending_of m ≤ unique_id_max
  pending-small = leb-true (pending_of m) unique_id_max (and_elim_right (leb (node_of m) node_max) _ last)

-- ── writing ──

module _ (m : List ℕ) where
  pub node-set : (n : ℕ) → set m node_at n ≡ with_node m n
  unfolding with_node
  node-set n = refl

  pub pending-set : (n : ℕ) → set m pending_at n ≡ with_pending m n
  unfolding with_pending
  pending-set n = refl

  pub length-node : (n : ℕ) → length (with_node m n) ≡ length m
  unfolding with_node
  length-node n = length-set m node_at n

  pub length-pending : (n : ℕ) → length (with_pending m n) ≡ length m
  unfolding with_pending
  length-pending n = length-set m pending_at n

  pub timer-set : (t x : ℕ) (m₁ m₂ m₃ : List ℕ) → m₁ ≡ splice m since_at (le_bytes 8 t) → m₂ ≡ splice m₁ period_at (le_bytes 4 (x % 4294967296))
      → m₃ ≡ splice m₂ delay_at (le_bytes 4 (x / 4294967296)) → m₃ ≡ with_timer m t x
  unfolding with_timer
  timer-set t x m₁ m₂ m₃ e₁ e₂ e₃ =
      e₃ ∙ ap (λ y. splice y delay_at (le_bytes 4 (x / 4294967296))) (e₂ ∙ ap (λ y. splice y period_at (le_bytes 4 (x % 4294967296))) e₁)

  pub length-timer : (t x : ℕ) → size ≤ length m → length (with_timer m t x) ≡ length m
  unfolding with_timer
  length-timer t x h =
      let a = le_bytes 8 t in
      let b = le_bytes 4 (x % 4294967296) in
      let d = le_bytes 4 (x / 4294967296) in
      let m₁ = splice m since_at a in
      let m₂ = splice m₁ period_at b in
      let l₁ : length m₁ ≡ length m = length-splice m since_at a (omega (arith, length-le_bytes 8 t)) in
      let l₂ : length m₂ ≡ length m = length-splice m₁ period_at b (omega (arith, length-le_bytes 4 (x % 4294967296), l₁)) ∙ l₁ in
      length-splice m₂ delay_at d (omega (arith, length-le_bytes 4 (x / 4294967296), l₂)) ∙ l₂

  pub fresh_set : (u : List ℕ) (p t x : ℕ) (m₁ m₂ m₃ m₄ : List ℕ) → m₁ ≡ splice m unique_at u → m₂ ≡ with_node (set m₁ preferred_at p) 0 → m₃ ≡ with_pending m₂ 0
      → m₄ ≡ with_timer m₃ t x → m₄ ≡ fresh m u p t x
  unfolding fresh
  fresh_set u p t x m₁ m₂ m₃ m₄ e₁ e₂ e₃ e₄ =
      e₄ ∙ ap (λ y. with_timer y t x) (e₃ ∙ ap (λ y. with_pending y 0) (e₂ ∙ ap (λ y. with_node (set y preferred_at p) 0) e₁))
