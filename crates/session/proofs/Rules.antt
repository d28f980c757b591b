-- Each case of the rules, from the tests that lead to it. Throughout, b is what a test of the code gave.
use mathlib.Core.Path.{◌≡◌, refl, sym, ap, ◌∙◌}
use mathlib.Core.Bool.{Bool, true, false, not, ◌&&◌, beq, and-false, true≢false, false≢true}
use mathlib.Core.List.{List, [], ◌∷◌, ◌++◌}
use mathlib.Core.Option.{Option, none, some}
use Prim.Native.Nat.{ℕ, ◌+◌, ◌-◌, ◌≤◌, ◌<◌}
use native.Mathlib.Omega.{arith}
use borrow.Author.Tests.{lt-ltb, le-ltb, eq-eqb, ne_eqb, eqb-true}
use lib.Dec.{ltb, eqb}
use lib.ListN.{length, drop, replicate, length-append, length-replicate}
use Rattle.rules.specs.Answer as answer
use Rattle.rules.specs.Answer.{taken, handed, long, differs}
use Rattle.rules.specs.Check.{Parsed}
use Rattle.rules.specs.Limits.{switch_delay}
use Rattle.rules.specs.Session as rules
use Rattle.rules.specs.Session.{old_since, distance, sum_ok, over, over_if, closed, closing, takes, take_long, take_end, since_of, proceed, proceed_if, restarts}
use Rattle.rules.specs.Tests.{pick, same_bool, is_empty, is_none}
use Rattle.answers.specs.Reception.{told, out_after}
use Rattle.session.specs.inside.Answer.{why, Passes, HandsOut, Closes}
use Rattle.session.specs.inside.Session.{parsed_of, added, coded, bare}
use Rattle.answers.specs.declared.Answer.{Answer}
use Rattle.answers.specs.declared.Answer.TheVariants.{Passed, BadChecksum}
use Rattle.answers.specs.declared.Reason.{Reason}
use Rattle.answers.specs.declared.Reason.TheVariants.{NoTransfer, WrongToggle, WrongTransfer, RepeatedStart, OtherInterface}
use Rattle.session.specs.declared.Incoming.{Incoming}
use Rattle.session.specs.declared.Session.{Session}
use Rattle.session.proofs.Gathered.{empty-length}

-- ── the tests, on the fields that they read ──

module _ (c : Session) (h : Incoming) (b : Bool) (e : b ≡ old_since c.time h.time) where
  pub restarts-old : b ≡ true → true ≡ restarts (bare c) (parsed_of h [])
  unfolding restarts parsed_of
  restarts-old o = rw (← e, o)

  pub restarts-start : b ≡ false → h.head.start ≡ true → rules.begins (bare c) (parsed_of h []) ≡ restarts (bare c) (parsed_of h [])
  unfolding restarts parsed_of
  restarts-start o k = rw (← e, o, k)

  pub restarts-not : b ≡ false → h.head.start ≡ false → false ≡ restarts (bare c) (parsed_of h [])
  unfolding restarts parsed_of
  restarts-not o k = rw (← e, o, k)

-- a is that the frame is behind the expected ID, b that a switch is allowed
module _ (c : Session) (h : Incoming) (a : Bool) (d : a ≡ (eqb h.interface c.follows && ltb 1 (distance h.head.transfer c.expected))) where
  pub begins-behind : a ≡ true → true ≡ rules.begins (bare c) (parsed_of h [])
  unfolding parsed_of
  begins-behind k = rw (← d, k)

  module _ (k : a ≡ false) (b : Bool) (e : b ≡ ltb switch_delay (h.time - c.time)) where
    pub begins-switch : b ≡ true → ltb (distance c.expected h.head.transfer) 16 ≡ rules.begins (bare c) (parsed_of h [])
    unfolding parsed_of
    begins-switch o = rw (← d, k, ← e, o)

    pub begins-not : b ≡ false → false ≡ rules.begins (bare c) (parsed_of h [])
    unfolding parsed_of
    begins-not o = rw (← d, k, ← e, o)

-- ── which frame is awaited, and why another is passed over ──

-- of the bytes in hand only their number counts
over-bare : (c : Session) (h : Incoming)
    → over (bare c) (parsed_of h []) ≡ over_if (eqb h.interface c.follows) h.head.start (eqb h.head.transfer c.expected) (eqb c.len 0) (same_bool h.head.toggle c.toggle)
unfolding over parsed_of
over-bare c h =
    ap (λ (b : Bool). over_if (eqb h.interface c.follows) h.head.start (eqb h.head.transfer c.expected) b (same_bool h.head.toggle c.toggle))
    (empty-length (replicate c.len 0) ∙ ap (λ (n : ℕ). eqb n 0) (length-replicate c.len 0))

unfoldable awaited_at : Session → Incoming → Bool
awaited_at c h =
    eqb h.interface c.follows
    && (eqb h.head.transfer c.expected && (same_bool h.head.toggle c.toggle && same_bool h.head.start (eqb c.len 0)))

none-awaited : (follows start expected empty toggle : Bool)
    → is_none (over_if follows start expected empty toggle) ≡ (follows && (expected && (toggle && same_bool start empty)))
none-awaited false start expected empty toggle = refl
none-awaited true true false empty toggle = refl
none-awaited true true true false toggle = sym (and-false toggle)
none-awaited true true true true false = refl
none-awaited true true true true true = refl
none-awaited true false false true toggle = refl
none-awaited true false true true toggle = sym (and-false toggle)
none-awaited true false false false toggle = refl
none-awaited true false true false false = refl
none-awaited true false true false true = refl

-- the test of the code is that of the rules
over-awaited : (c : Session) (h : Incoming) → is_none (over (bare c) (parsed_of h [])) ≡ awaited_at c h
unfolding awaited_at
over-awaited c h =
    ap is_none (over-bare c h)
    ∙ none-awaited (eqb h.interface c.follows) h.head.start (eqb h.head.transfer c.expected) (eqb c.len 0) (same_bool h.head.toggle c.toggle)

beq_same : (a b : Bool) → beq a b ≡ same_bool a b
beq_same true true = refl
beq_same true false = refl
beq_same false true = refl
beq_same false false = refl

module _ (c : Session) (h : Incoming) where
  pub awaited-interface : (h.interface ≡ c.follows → ⊥) → false ≡ is_none (over (bare c) (parsed_of h []))
  unfolding awaited_at
  awaited-interface i = rw (over-awaited c h, ne_eqb h.interface c.follows i)

  module _ (i : h.interface ≡ c.follows) where
    pub awaited-transfer : (h.head.transfer ≡ c.expected → ⊥) → false ≡ is_none (over (bare c) (parsed_of h []))
    unfolding awaited_at
    awaited-transfer t = rw (over-awaited c h, eq-eqb h.interface c.follows i, ne_eqb h.head.transfer c.expected t)

    module _ (t : h.head.transfer ≡ c.expected) where
      pub awaited-toggle : beq h.head.toggle c.toggle ≡ false → false ≡ is_none (over (bare c) (parsed_of h []))
      unfolding awaited_at
      awaited-toggle g =
          rw (
            over-awaited c h,
            eq-eqb h.interface c.follows i,
            eq-eqb h.head.transfer c.expected t,
            sym (beq_same h.head.toggle c.toggle) ∙ g,
          )

      pub awaited-rest : beq h.head.toggle c.toggle ≡ true → beq h.head.start (eqb c.len 0) ≡ is_none (over (bare c) (parsed_of h []))
      unfolding awaited_at
      awaited-rest g =
          rw (
            over-awaited c h,
            eq-eqb h.interface c.follows i,
            eq-eqb h.head.transfer c.expected t,
            sym (beq_same h.head.toggle c.toggle) ∙ g,
            beq_same h.head.start (eqb c.len 0),
          )

-- the first that holds: 34, 32, 33
why-start : (f a e t : Bool) → is_none (over_if f true a e t) ≡ false → (e ≡ true → t ≡ true)
    → why (over_if f true a e t) ≡ some (pick (not f) OtherInterface (pick (not a) WrongTransfer RepeatedStart))
why-start false a e t n s = refl
why-start true false e t n s = refl
why-start true true false t n s = refl
why-start true true true true n s = absurd (true≢false n)
why-start true true true false n s = absurd (false≢true (s refl))

-- 34, 30, 32, 31
why-other : (f a e t : Bool) → is_none (over_if f false a e t) ≡ false
    → why (over_if f false a e t) ≡ some (pick (not f) OtherInterface (pick e NoTransfer (pick (not a) WrongTransfer WrongToggle)))
why-other false a e t n = refl
why-other true a true t n = refl
why-other true false false t n = refl
why-other true true false false n = refl
why-other true true false true n = absurd (true≢false n)

module _ (c : Session) (h : Incoming) (g : Passes c h) where
  abbrev f : Bool
  f = eqb h.interface c.follows

  abbrev a : Bool
  a = eqb h.head.transfer c.expected

  abbrev e : Bool
  e = eqb c.len 0

  abbrev t : Bool
  t = same_bool h.head.toggle c.toggle

  passes : (b : Bool) → h.head.start ≡ b → over (bare c) (parsed_of h []) ≡ over_if f b a e t
  passes b k = over-bare c h ∙ ap (λ (x : Bool). over_if f x a e t) k

  pub reason-start : h.head.start ≡ true
      → why (over (bare c) (parsed_of h [])) ≡ some (pick (not f) OtherInterface (pick (not a) WrongTransfer RepeatedStart))
  reason-start k =
      let q = passes true k in
      ap why q ∙ why-start f a e t (sym (ap is_none q) ∙ g.over) (λ z. rw (g.start k, g.toggle (eqb-true c.len 0 z)))

  pub reason-other : h.head.start ≡ false
      → why (over (bare c) (parsed_of h [])) ≡ some (pick (not f) OtherInterface (pick e NoTransfer (pick (not a) WrongTransfer WrongToggle)))
  reason-other k = let q = passes false k in ap why q ∙ why-other f a e t (sym (ap is_none q) ∙ g.over)

-- ── of a session with its bytes, and a frame with its payload ──

empty-bare : (g : List ℕ) → is_empty {A = ℕ} (replicate (length g) 0) ≡ is_empty g
empty-bare [] = refl
empty-bare (b ∷ g) = refl

module _ (s : rules.Session) (h : Incoming) (p : List ℕ) where
  pub restarts-whole : restarts (bare (coded s)) (parsed_of h []) ≡ restarts s (parsed_of h p)
  unfolding restarts parsed_of
  restarts-whole = refl

  pub over-whole : over (bare (coded s)) (parsed_of h []) ≡ over s (parsed_of h p)
  unfolding over parsed_of
  over-whole =
      ap (λ (b : Bool). over_if (eqb h.interface s.follows) h.head.start (eqb h.head.transfer s.expected) b (same_bool h.head.toggle s.toggle))
      (empty-bare s.gathered)

-- ── passed over or taken ──

-- a start is awaited only with nothing in hand
pub awaited-start : (s : rules.Session) (h : Incoming) (p : List ℕ) → is_none (over s (parsed_of h p)) ≡ true → h.head.start ≡ true → length s.gathered ≡ 0
unfolding over parsed_of
awaited-start s h p w k =
    go (eqb h.interface s.follows) (eqb h.head.transfer s.expected) s.gathered (same_bool h.head.toggle s.toggle) h.head.start w k
  where
    go : (f e : Bool) (g : List ℕ) (t start : Bool) → is_none (over_if f start e (is_empty g) t) ≡ true → start ≡ true → length g ≡ 0
    go true true [] t true w k = refl
    go true true (x ∷ g) t true w k = absurd (false≢true w)
    go true false g t true w k = absurd (false≢true w)
    go false e g t true w k = absurd (false≢true w)
    go f e g t false w k = absurd (false≢true k)

module _ (s : rules.Session) (v : Parsed) where
  proceed-taken : is_none (over s v) ≡ true → proceed s v ≡ takes s v
  unfolding proceed proceed_if
  proceed-taken = go (over s v) where
    go : (o : Option answer.Reason) → is_none o ≡ true → proceed_if o s v ≡ takes s v
    go none x = refl
    go (some r) x = absurd (false≢true x)

  proceed-passed : (r : Reason) → why (over s v) ≡ some r
      → (told (proceed s v).answer ≡ Passed r) × (((proceed s v).session ≡ s) × ((out : List ℕ) → out_after (proceed s v).answer out ≡ out))
  unfolding proceed proceed_if
  proceed-passed r = go (over s v) where
    go : (o : Option answer.Reason) → why o ≡ some r
        → (told (proceed_if o s v).answer ≡ Passed r) × (((proceed_if o s v).session ≡ s) × ((out : List ℕ) → out_after (proceed_if o s v).answer out ≡ out))
    go none x = let z : ◌≡◌ {A = ℕ} 0 1 = cc in absurd (omega arith)
    go (some y) x = (cc, (refl, λ out. refl))

-- ── taken ──

module _ (start ok : Bool) (all : List ℕ) (v : Parsed) where
  closing-whole : start ≡ true → closing start ok all v ≡ handed all v.stream v.priority v.transfer
  unfolding closing
  closing-whole k = rw k

  closing-behind : start ≡ false → ok ≡ true → closing start ok all v ≡ handed (drop 2 all) v.stream v.priority v.transfer
  unfolding closing
  closing-behind k o = rw (k, o)

  closing-differs : start ≡ false → ok ≡ false → closing start ok all v ≡ differs
  unfolding closing
  closing-differs k o = rw (k, o)

module _ (h : Incoming) (all out : List ℕ) where
  abbrev ok : Bool
  ok = sum_ok h.signature all

  module _ (a : Answer) (out' : List ℕ) where
    pub closes-whole : h.head.start ≡ true → HandsOut h all a out out' → Closes h all a out out'
    unfolding parsed_of
    closes-whole k d =
        let e = closing-whole h.head.start ok all (parsed_of h []) k in
        record { answer = d.answer ∙ ap told (sym e); out = d.out ∙ ap (λ x. out_after x out) (sym e) }

    pub closes-behind : h.head.start ≡ false → (b : Bool) → b ≡ ok → b ≡ true → HandsOut h (drop 2 all) a out out' → Closes h all a out out'
    unfolding parsed_of
    closes-behind k b w o d =
        let e = closing-behind h.head.start ok all (parsed_of h []) k (sym w ∙ o) in
        record { answer = d.answer ∙ ap told (sym e); out = d.out ∙ ap (λ x. out_after x out) (sym e) }

  pub closes-differs : h.head.start ≡ false → (b : Bool) → b ≡ ok → b ≡ false → Closes h all BadChecksum out out
  closes-differs k b w o =
      let e = closing-differs h.head.start ok all (parsed_of h []) k (sym w ∙ o) in
      record { answer = ap told (sym e); out = ap (λ x. out_after x out) (sym e) }

-- of the frame, a closing answer reads all but the payload
closing-alike : (start ok : Bool) (all : List ℕ) (h : Incoming) (p : List ℕ) → closing start ok all (parsed_of h []) ≡ closing start ok all (parsed_of h p)
unfolding closing parsed_of
closing-alike true ok all h p = refl
closing-alike false true all h p = refl
closing-alike false false all h p = refl

module _ (s : rules.Session) (v : Parsed) where
  takes-long : 514 < length (s.gathered ++ v.payload) → takes s v ≡ record { answer = long; session = closed s (since_of s v) }
  unfolding takes take_long
  takes-long g = rw (lt-ltb 514 (length (s.gathered ++ v.payload)) g)

  module _ (g : length (s.gathered ++ v.payload) ≤ 514) where
    takes-end : v.last ≡ true
        → takes s v ≡ record { answer = closing v.start (sum_ok v.signature (s.gathered ++ v.payload)) (s.gathered ++ v.payload) v; session = closed s (since_of s v) }
    unfolding takes take_long take_end
    takes-end l = rw (le-ltb 514 (length (s.gathered ++ v.payload)) g, l)

    takes-more : v.last ≡ false → takes s v ≡ record { answer = taken; session = added s v.start v.time v.payload }
    unfolding takes take_long take_end
    takes-more l = rw (le-ltb 514 (length (s.gathered ++ v.payload)) g, l)

-- ── what a frame does, from the tests of the code ──

module _ (s : rules.Session) (h : Incoming) (p : List ℕ) where
  abbrev v : Parsed
  v = parsed_of h p

  -- what is passed over changes nothing
  pub passes_over : (x : Reason) → why (over s v) ≡ some x
      → (told (proceed s v).answer ≡ Passed x) × (((proceed s v).session ≡ s) × ((out : List ℕ) → out_after (proceed s v).answer out ≡ out))
  passes_over x a = proceed-passed s v x a

  module _ (a : is_none (over s v) ≡ true) where
    all-length : length (s.gathered ++ p) ≡ length s.gathered + length p
    all-length = length-append s.gathered p

    pub goes_over : 514 < length s.gathered + length p → proceed s v ≡ record { answer = long; session = closed s (since_of s v) }
    unfolding parsed_of
    goes_over g = proceed-taken s v a ∙ takes-long s v (omega (arith, all-length))

    module _ (g : length s.gathered + length p ≤ 514) where
      pub goes_on : h.head.end ≡ false → proceed s v ≡ record { answer = answer.taken; session = added s h.head.start h.time p }
      unfolding parsed_of
      goes_on l = proceed-taken s v a ∙ takes-more s v (omega (arith, all-length)) l

      pub goes-out : h.head.end ≡ true → (r : Answer) (out out' : List ℕ) → Closes h (s.gathered ++ p) r out out'
          → (r ≡ told (proceed s v).answer) × (((proceed s v).session ≡ closed s (since_of s v)) × (out' ≡ out_after (proceed s v).answer out))
      unfolding parsed_of
      goes-out l r out out' d =
          let all = s.gathered ++ p in
          let y = closing-alike h.head.start (sum_ok h.signature all) all h p in
          rw (proceed-taken s v a ∙ takes-end s v (omega (arith, all-length)) l) (d.answer ∙ ap told y, (refl, d.out ∙ ap (λ z. out_after z out) y))
