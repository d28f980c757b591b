-- A frame of several: there is a block for its bytes where it needs one, or none.
use mathlib.Core.Path.{◌≡◌, refl, sym, ap, subst, ◌∙◌}
use mathlib.Core.Bool.{Bool, true, false, false≢true, not, ◌&&◌}
use mathlib.Core.List.{List, []}
use Prim.Native.Nat.{ℕ, ◌+◌, ◌^◌, ◌≤◌, ◌<◌}
use native.Mathlib.Omega.{arith}
use borrow.Author.Tests.{ltb-true, ltb-false, lt-ltb, le-ltb}
use lib.Count.{count_trailing_zeros}
use lib.Dec.{ltb}
use lib.ListN.{length, set}
use Rattle.answers.specs.declared.Answer.TheVariants.{NoBlock}
use Rattle.bits.specs.Order.{Octets}
use Rattle.frame.specs.Key.{stream_of_key}
use Rattle.receiver.specs.Receive.{returned, lent}
use Rattle.receiver.specs.inside.Place.{Met, Takes}
use Rattle.receiver.proofs.Steps.{len_is, enough}
use Rattle.receiver.proofs.Provided.{met₁, takes₁, some₁, with-block, without-block}
use Rattle.rules.specs.Blocks.{need, free_block, cleared, asks}
use Rattle.rules.specs.Limits.{blocks_max}
use Rattle.rules.specs.Reception.{store, step_ask}
use Rattle.rules.specs.Session.{waiting, next, proceed}
use Rattle.rules.specs.Table.{held, Places}
use Rattle.rules.specs.Tests.{pick, is_none}
use Rattle.session.specs.declared.Incoming.{Incoming}
use Rattle.session.specs.declared.Session as code
use Rattle.session.specs.inside.Session.{idle, stream_of, parsed_of}
use Rattle.sessions.specs.inside.Place.{grown_blocks}
use Rattle.state.specs.Layout.{free_of, count_at, blocks_of, session_at, places_of}
use Rattle.state.specs.Place.{written}

not-not : (b : Bool) → not (not b) ≡ b
not-not true = refl
not-not false = refl

-- what `lacks_block` answers: a block is needed and asked for, or none is needed
pub block-asked : (a b : ℕ) (x m m' : List ℕ) (none r : Bool) → a < b → m' ≡ x → r ≡ not none → (m' ≡ pick (ltb a b) x m) × (not r ≡ (ltb a b && none))
block-asked a b x m m' none r l e f =
    let t = lt-ltb a b l in
    (e ∙ ap (λ (y : Bool). pick y x m) (sym t), ap not f ∙ not-not none ∙ ap (λ (y : Bool). y && none) (sym t))

pub none-asked : (a b : ℕ) (x m : List ℕ) (none : Bool) → b ≤ a → (m ≡ pick (ltb a b) x m) × (false ≡ (ltb a b && none))
none-asked a b x m none l = let t = le-ltb a b l in (ap (λ (y : Bool). pick y x m) (sym t), ap (λ (y : Bool). y && none) (sym t))

module _ (m : List ℕ) (i k : ℕ) (c : code.Session) (h : Incoming) (p out : List ℕ) (w : Met m i k c h p out) (bytes : Octets m) (t : Takes m i h p)
    (m₁ : List ℕ) (r : Bool) (is : m₁ ≡ pick (ltb (need c.len) (need (c.len + length p))) (written m (cleared h.time (places_of m))) m)
    (lacks : r ≡ (ltb (need c.len) (need (c.len + length p)) && is_none (free_block (cleared h.time (places_of m))))) (bytes₁ : Octets m₁) where
  abbrev qs : Places
  qs = cleared h.time (places_of m)

  cases : {A : Type 0} → (need (count_at m i) < need (count_at m i + length p) → m₁ ≡ written m qs → r ≡ is_none (free_block qs) → A)
      → (need (count_at m i + length p) ≤ need (count_at m i) → m₁ ≡ m → r ≡ false → A) → A
  cases {A} f g = go (ltb (need c.len) (need (c.len + length p))) refl is lacks
    where
      len : c.len ≡ count_at m i
      len = len_is m i k c h p out w bytes t.awaited t.few

      go : (b : Bool) → ltb (need c.len) (need (c.len + length p)) ≡ b → m₁ ≡ pick b (written m qs) m → r ≡ (b && is_none (free_block qs)) → A
      go true e x y = f (omega (arith, len, ltb-true (need c.len) (need (c.len + length p)) e)) x y
      go false e x y = g (omega (arith, len, ltb-false (need c.len) (need (c.len + length p)) e)) x y

  pub met₂ : Met m₁ i k c h p out
  met₂ = cases (λ s x y. met₁ m i k c h p out w bytes m₁ x bytes₁) (λ s x y. subst (λ (n : List ℕ). Met n i k c h p out) (sym x) w)

  pub takes₂ : Takes m₁ i h p
  takes₂ = cases (λ s x y. takes₁ m i k c h p out w bytes m₁ x bytes₁ t) (λ s x y. subst (λ (n : List ℕ). Takes n i h p) (sym x) t)

  pub some₂ : r ≡ false → need (count_at m₁ i) < need (count_at m₁ i + length p) → count_trailing_zeros blocks_max (free_of m₁) < blocks_max
  some₂ e z =
      cases (λ s x y. some₁ m i k c h p out w bytes m₁ x bytes₁ (not r) (ap not y) (ap not e))
      (λ s x y. absurd (omega (arith, s, z, ap (λ (n : List ℕ). count_at n i) x)))

  module _ (time : h.time < 2 ^ 64) (since : c.time < 2 ^ 64) (several : (h.head.start && h.head.end) ≡ false) where
    pub entered : r ≡ false
        → lent m₁ out (store (places_of m₁) i (stream_of h) (grown_blocks m₁ i (count_at m₁ i + length p)) (proceed (session_at m₁ i) (parsed_of h p)))
        ≡ lent m out (step_ask (asks (session_at m i) (blocks_of m i) (parsed_of h p)) (places_of m) i (session_at m i) (blocks_of m i) (parsed_of h p))
    entered e =
        cases
        (λ s x y.
        with-block m i k c h p out w bytes m₁ x bytes₁ time since t several s
        (some₁ m i k c h p out w bytes m₁ x bytes₁ (not r) (ap not y) (ap not e)))
        (λ s x y.
        subst
        (λ (n : List ℕ).
        lent n out (store (places_of n) i (stream_of h) (grown_blocks n i (count_at n i + length p)) (proceed (session_at n i) (parsed_of h p)))
        ≡ lent m out (step_ask (asks (session_at m i) (blocks_of m i) (parsed_of h p)) (places_of m) i (session_at m i) (blocks_of m i) (parsed_of h p)))
        (sym x) (enough m i k c h p out w bytes t.awaited t.few several s))

    pub left_out : r ≡ true → (o : code.Session) → o ≡ idle (next c.expected) (pick h.head.start h.time c.time) c.follows
        → (m' : List ℕ) → m' ≡ written m₁ (set (places_of m₁) i (held (stream_of_key k) (waiting o.expected o.time o.follows) []))
        → returned NoBlock m' out ≡ lent m out (step_ask (asks (session_at m i) (blocks_of m i) (parsed_of h p)) (places_of m) i (session_at m i) (blocks_of m i) (parsed_of h p))
    left_out e o q m' f =
        cases (λ s x y. without-block m i k c h p out w bytes m₁ x bytes₁ time since t several s (not r) (ap not y) (ap not e) o q m' f)
        (λ s x y. absurd (false≢true (sym y ∙ e)))
