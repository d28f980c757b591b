-- The blocks: how often one stands in the table, and that no step gives a block to two sessions.
use mathlib.Core.Path.{◌≡◌, refl, sym, ap, ◌∙◌, subst}
use mathlib.Core.Bool.{Bool, true, false, ◌&&◌}
use mathlib.Core.List.{List, [], ◌∷◌, ◌++◌, map}
use mathlib.Core.Option.{Option, none, some}
use mathlib.Mathlib.Data.Bool.Basic.{and_elim_left, and_elim_right, and_intro}
use Prim.Native.Nat.{ℕ, zero, suc, ◌+◌, ◌≤◌, ◌<◌}
use native.Mathlib.Omega.{arith}
use lib.Dec.{eqb, ltb}
use lib.ListN.{length, get_or, set, take, get_or-map}
use lib.Seq.{get_or-set_same}
use borrow.Author.Tests.{eqb-true, eq-eqb, ltb-true, ltb-false}
use Rattle.rules.specs.Blocks.{need, blocks_in, used, times, lowest, free_block, stale, relieved, cleared, asks}
use Rattle.rules.specs.Check.{Parsed}
use Rattle.rules.specs.Reception.{step_block, step_ask, step_at}
use Rattle.rules.specs.Session.{Session, closed, since_of, proceed}
use Rattle.rules.specs.Sound.{blocks_fit}
use Rattle.rules.specs.Table.{Place, empty, held, Places}
use Rattle.rules.specs.Tests.{pick}
use Rattle.rules.proofs.Landing.{Cleared, untouched, eased, clearing, put, inside-in}

-- ── how often a number stands in a list ──

pub times-append : (b : ℕ) (l m : List ℕ) → times b (l ++ m) ≡ times b l + times b m
unfolding times
times-append b [] m = omega arith
times-append b (c ∷ l) m = go (eqb b c) (times-append b l m)
  where
    go : (k : Bool) → times b (l ++ m) ≡ times b l + times b m
        → pick k (suc (times b (l ++ m))) (times b (l ++ m)) ≡ pick k (suc (times b l)) (times b l) + times b m
    go true h = omega (arith, h)
    go false h = h

pub times-take : (b n : ℕ) (l : List ℕ) → times b (take n l) ≤ times b l
unfolding times
times-take b zero l = omega arith
times-take b (suc n) [] = omega arith
times-take b (suc n) (c ∷ l) = go (eqb b c) (times-take b n l)
  where
    go : (k : Bool) → times b (take n l) ≤ times b l → pick k (suc (times b (take n l))) (times b (take n l)) ≤ pick k (suc (times b l)) (times b l)
    go true h = omega (arith, h)
    go false h = h

pub times-here : (b : ℕ) (l : List ℕ) → times b (b ∷ l) ≡ suc (times b l)
unfolding times
times-here b l = rw (eq-eqb b b refl)

times_more : (b c : ℕ) (l : List ℕ) → times b l ≤ times b (c ∷ l)
unfolding times
times_more b c l = go (eqb b c)
  where
    go : (k : Bool) → times b l ≤ pick k (suc (times b l)) (times b l)
    go true = omega arith
    go false = omega arith

-- ── each at most once, and each one of the 64 ──

pub record Shared (l : List ℕ) : Type 0 where
  pub once : (b : ℕ) → times b l ≤ 1
  pub small : (b : ℕ) → 64 ≤ b → times b l ≡ 0

pub fit-shared : (l : List ℕ) → blocks_fit l ≡ true → Shared l
unfolding times
fit-shared [] h = record { once = λ b. omega arith; small = λ b k. refl }
fit-shared (c ∷ l) h =
    let rest = fit-shared l (and_elim_right (ltb c 64 && eqb (times c l) 0) _ h) in
    record { once = λ b. once rest b (eqb b c) refl; small = λ b k. small rest b k (eqb b c) refl }
  where
    first : (ltb c 64 && eqb (times c l) 0) ≡ true
    first = and_elim_left _ _ h

    none : times c l ≡ 0
    none = eqb-true (times c l) 0 (and_elim_right (ltb c 64) _ first)

    once : Shared l → (b : ℕ) (k : Bool) → eqb b c ≡ k → pick k (suc (times b l)) (times b l) ≤ 1
    once rest b true e = omega (arith, ap (λ x. times x l) (eqb-true b c e), none)
    once rest b false e = rest.once b

    small : Shared l → (b : ℕ) → 64 ≤ b → (k : Bool) → eqb b c ≡ k → pick k (suc (times b l)) (times b l) ≡ 0
    small rest b g true e = absurd (omega (arith, g, eqb-true b c e, ltb-true c 64 (and_elim_left _ _ first)))
    small rest b g false e = rest.small b g

pub shared-fit : (l : List ℕ) → Shared l → blocks_fit l ≡ true
shared-fit [] h = refl
shared-fit (c ∷ l) h =
    let q = times-here c l in
    and_intro
    (and_intro (below (ltb c 64) refl) (eq-eqb (times c l) 0 (omega (arith, q, h.once c))))
    (shared-fit l (record {
      once = λ b. omega (arith, times_more b c l, h.once b);
      small = λ b k. omega (arith, times_more b c l, h.small b k);
    }))
  where
    below : (k : Bool) → ltb c 64 ≡ k → ltb c 64 ≡ true
    below true e = e
    below false e = absurd (omega (arith, times-here c l, h.small c (ltb-false c 64 e)))

pub fewer : (l m : List ℕ) → ((b : ℕ) → times b m ≤ times b l) → Shared l → Shared m
fewer l m k h = record { once = λ b. omega (arith, k b, h.once b); small = λ b g. omega (arith, k b, h.small b g) }

-- ── the table's ──

pub used-set : (ps : Places) (i : ℕ) (q : Place) (b : ℕ) → i < length ps
    → times b (used (set ps i q)) + times b (blocks_in (get_or ps i empty)) ≡ times b (used ps) + times b (blocks_in q)
unfolding used
used-set [] i q b h = absurd (omega arith)
used-set (p ∷ ps) zero q b h = omega (arith, times-append b (blocks_in q) (used ps), times-append b (blocks_in p) (used ps))
used-set (p ∷ ps) (suc i) q b h =
    omega (
      arith,
      times-append b (blocks_in p) (used (set ps i q)),
      times-append b (blocks_in p) (used ps),
      used-set ps i q b (omega (arith, h)),
    )

pub relieved-fewer : (t b : ℕ) (p : Place) → times b (blocks_in (relieved t p)) ≤ times b (blocks_in p)
unfolding times
relieved-fewer t b empty = omega arith
relieved-fewer t b (held d s bs) = go (stale t s)
  where
    go : (k : Bool) → times b (blocks_in (pick k (held d (closed s s.since) []) (held d s bs))) ≤ times b bs
    go true = omega arith
    go false = omega arith

pub used-relieved : (t b : ℕ) (ps : Places) → times b (used (map (relieved t) ps)) ≤ times b (used ps)
unfolding used
used-relieved t b [] = omega arith
used-relieved t b (p ∷ ps) =
    omega (
      arith,
      times-append b (blocks_in (relieved t p)) (used (map (relieved t) ps)),
      times-append b (blocks_in p) (used ps),
      relieved-fewer t b p,
      used-relieved t b ps,
    )

pub shared-cleared : {t : ℕ} {ps qs : Places} → Cleared t ps qs → Shared (used ps) → Shared (used qs)
shared-cleared (untouched e) h = subst (λ k. Shared (used k)) (sym e) h
shared-cleared {t} {ps} (eased e) h = subst (λ k. Shared (used k)) (sym e) (fewer (used ps) (used (map (relieved t) ps)) (λ b. used-relieved t b ps) h)

-- the lowest free block is one of the 64, and free
pub lowest-free : (n c : ℕ) (l : List ℕ) (b : ℕ) → lowest n c l ≡ some b → (b < n + c) × (times b l ≡ 0)
unfolding lowest
lowest-free zero c l b e = let z : ◌≡◌ {A = ℕ} 0 1 = cc in absurd (omega arith)
lowest-free (suc n) c l b e = go (eqb (times c l) 0) refl e (λ h. lowest-free n (suc c) l b h)
  where
    go : (k : Bool) → eqb (times c l) 0 ≡ k → pick k (some c) (lowest n (suc c) l) ≡ some b
        → (lowest n (suc c) l ≡ some b → (b < n + suc c) × (times b l ≡ 0)) → (b < suc n + c) × (times b l ≡ 0)
    go true q h on =
        let z : c ≡ b = cc in
        (omega (arith, z), ap (λ x. times x l) (sym z) ∙ eqb-true (times c l) 0 q)
    go false q h on = let r = on h in (omega (arith, r.0), r.1)

-- ── a step ──

module _ (ps : Places) (i : ℕ) (s : Session) (bs : List ℕ) (v : Parsed) (inside : i < length ps)
    (own : (b : ℕ) → times b bs ≤ times b (blocks_in (get_or ps i empty))) (calm : stale v.time s ≡ false) where
  abbrev place : Places
  place = put ps i s bs v

  -- the session at the place is not one of those that are emptied
  there : {qs : Places} → Cleared v.time place qs → blocks_in (get_or qs i empty) ≡ bs
  there (untouched e) = ap (λ k. blocks_in (get_or k i empty)) e ∙ ap blocks_in (get_or-set_same ps i (held v.stream s bs) empty inside)
  there (eased e) =
      ap (λ k. blocks_in (get_or k i empty)) e ∙ ap blocks_in (get_or-map (relieved v.time) place i empty)
      ∙ ap (λ p. blocks_in (relieved v.time p)) (get_or-set_same ps i (held v.stream s bs) empty inside)
      ∙ ap (λ k. blocks_in (pick k (held v.stream (closed s s.since) []) (held v.stream s bs))) calm

  pub shared-put : Shared (used ps) → Shared (used place)
  shared-put h =
      fewer (used ps) (used place) (λ b. omega (arith, used-set ps i (held v.stream s bs) b inside, own b)) h

  module _ (qs : Places) (c : Cleared v.time place qs) (h : Shared (used qs)) where
    -- it keeps some of its blocks
    shared-less : (x : Session) (n : ℕ) → Shared (used (set qs i (held v.stream x (take n bs))))
    shared-less x n =
        fewer (used qs) (used (set qs i (held v.stream x (take n bs))))
        (λ b. omega (
          arith,
          used-set qs i (held v.stream x (take n bs)) b (inside-in ps i s bs v inside c),
          ap (times b) (there c),
          times-take b n bs,
        ))
        h

    -- it gets a free one besides
    shared-one : (x : Session) (n a : ℕ) → a < 64 → times a (used qs) ≡ 0 → Shared (used (set qs i (held v.stream x (take n (bs ++ (a ∷ []))))))
    unfolding times
    shared-one x n a small free =
        record { once = λ b. once b (eqb b a) refl; small = λ b g. large b g (eqb b a) refl }
      where
        now : List ℕ
        now = used (set qs i (held v.stream x (take n (bs ++ (a ∷ [])))))

        most : (b : ℕ) → times b now ≤ times b (used qs) + times b (a ∷ [])
        most b =
            omega (
              arith,
              used-set qs i (held v.stream x (take n (bs ++ (a ∷ [])))) b (inside-in ps i s bs v inside c),
              ap (times b) (there c),
              times-take b n (bs ++ (a ∷ [])),
              times-append b bs (a ∷ []),
            )

        single : (b : ℕ) (k : Bool) → eqb b a ≡ k → times b (a ∷ []) ≡ pick k 1 0
        single b true e = rw e refl
        single b false e = rw e refl

        once : (b : ℕ) (k : Bool) → eqb b a ≡ k → times b now ≤ 1
        once b true e = omega (arith, most b, single b true e, ap (λ y. times y (used qs)) (eqb-true b a e), free)
        once b false e = omega (arith, most b, single b false e, h.once b)

        large : (b : ℕ) → 64 ≤ b → (k : Bool) → eqb b a ≡ k → times b now ≡ 0
        large b g true e = absurd (omega (arith, g, eqb-true b a e, small))
        large b g false e = omega (arith, most b, single b false e, h.small b g)

  pub shared_at : Shared (used ps) → Shared (used (step_at ps i s bs v).places)
  unfolding step_at step_ask step_block free_block
  shared_at h = ask (asks s bs v)
    where
      table : Places
      table = cleared v.time place

      ready : Shared (used table)
      ready = shared-cleared (clearing v.time place) (shared-put h)

      block : (o : Option ℕ) → lowest 64 0 (used table) ≡ o → Shared (used (step_block o table i s bs v).places)
      block none e = shared-less table (clearing v.time place) ready (closed s (since_of s v)) (need 0)
      block (some a) e =
          let r = lowest-free 64 0 (used table) a e in
          shared-one table (clearing v.time place) ready (proceed s v).session (need (length (proceed s v).session.gathered)) a (omega (arith, r.0)) r.1

      ask : (b : Bool) → Shared (used (step_ask b place i s bs v).places)
      ask false = shared-less place (untouched refl) (shared-put h) (proceed s v).session (need (length (proceed s v).session.gathered))
      ask true = block (free_block table) refl
