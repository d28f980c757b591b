-- What a frame does at its place, case by case, on plain lists.
use mathlib.Core.Path.{◌≡◌, refl, sym, ap, ap₂, subst, ◌∙◌}
use mathlib.Core.Bool.{Bool, true, false, false≢true, not, ◌&&◌, ◌||◌}
use mathlib.Core.List.{List, [], ◌∷◌, ◌++◌}
use mathlib.Core.Option.{Option, none, some}
use mathlib.Mathlib.Data.Bool.Basic.{and_elim_left, and_elim_right}
use Prim.Native.Nat.{ℕ, ◌+◌, ◌*◌, ◌≤◌, ◌<◌}
use native.Mathlib.Omega.{arith}
use borrow.Author.Tests.{ltb-true, ltb-false, lt-ltb, le-ltb, lt-leb, le-leb}
use lib.Dec.{ltb, leb}
use lib.ListN.{length, get_or, take, set, length-append}
use lib.Seq.{set-get_or, take_all}
use Rattle.answers.specs.Reception.{told, out_after}
use Rattle.answers.specs.declared.Answer.{Answer}
use Rattle.answers.specs.declared.Answer.TheVariants.{Taken, Passed, TooLong}
use Rattle.answers.specs.declared.Reason.{Reason}
use Rattle.bits.proofs.Splice.{splice-next, take-splice}
use Rattle.bits.specs.Order.{Octets}
use Rattle.bits.specs.Part.{span, splice}
use Rattle.rules.specs.Limits.{blocks_max, blocks_each}
use lib.Count.{count_trailing_zeros}
use Rattle.frame.specs.Key.{stream_of_key}
use Rattle.receiver.specs.Receive.{returned, lent}
use Rattle.receiver.specs.inside.Place.{Met}
use Rattle.receiver.proofs.Lent.{results, unwritten}
use Rattle.rules.proofs.Lasting.{Fits}
use Rattle.rules.specs.Answer as answer
use Rattle.rules.specs.Blocks.{need, keeps, asks_if, asks}
use Rattle.rules.specs.Check.{Parsed}
use Rattle.rules.specs.Reception.{store, step_ask}
use Rattle.rules.specs.Session.{Session, Out, waiting, next, restarts, over, sum_ok, closing, closed, since_of, proceed}
use Rattle.rules.specs.Sound.{stream_fits}
use Rattle.rules.specs.Table.{Place, empty, held, Places}
use Rattle.rules.specs.Tests.{pick, is_empty, is_none}
use Rattle.session.proofs.Rules.{restarts-whole, over-whole, awaited-start, passes_over, goes_over, goes_on, goes-out}
use Rattle.session.specs.declared.Incoming.{Incoming}
use Rattle.session.specs.declared.Session as code
use Rattle.session.specs.inside.Answer.{why, Closes}
use Rattle.session.specs.inside.Session.{idle, taken, coded, bare, added, stream_of, parsed_of}
use Rattle.sessions.specs.inside.Place.{coded_at, Waits, Grows, grown_blocks, grown}
use Rattle.state.proofs.Held.{table-held, session-fits, small, hand-length, count-le}
use Rattle.state.proofs.View.{list_length}
use Rattle.state.specs.Layout.{block_lists_at, free_of, joined, key_at, count_at, blocks_of, gathered_at, session_at, places_of}
use Rattle.state.specs.Place.{written}
use Rattle.state.specs.inside.Ready.{Small}

-- a stream that fits has a key
no_key : stream_fits (stream_of_key 0) ≡ false
unfolding stream_fits stream_of_key
no_key = refl

module _ (m : List ℕ) (i k : ℕ) (c : code.Session) (h : Incoming) (p out : List ℕ) (w : Met m i k c h p out) (bytes : Octets m) where
  abbrev s : Session
  s = session_at m i

  abbrev bs : List ℕ
  bs = blocks_of m i

  abbrev v : Parsed
  v = parsed_of h p

  abbrev ps : Places
  ps = places_of m

  pub some_key : key_at m i ≡ 0 → ⊥
  some_key z =
      false≢true (sym no_key ∙ ap (λ (x : ℕ). stream_fits (stream_of_key x)) (sym z ∙ w.key) ∙ ap stream_fits w.stream ∙ w.fits)

  pub few : count_at m i ≤ 514
  few = count-le m w.ready bytes i w.place some_key

  pub here : get_or ps i empty ≡ held (stream_of h) s bs
  here = table-held m w.ready bytes i w.place some_key ∙ ap (λ x. held x s bs) (ap stream_of_key w.key ∙ w.stream)

  -- what is in hand
  pub in-hand : length s.gathered ≡ count_at m i
  unfolding session_at
  in-hand = hand-length m w.ready bytes i w.place some_key

  pub coded-is : c ≡ coded s
  unfolding coded_at session_at
  coded-is = w.coded ∙ ap (λ (n : ℕ). record { expected = s.expected; toggle = s.toggle; time = s.since; follows = s.follows; len = n }) (sym in-hand)

  pub fits : Fits s
  fits = session-fits m w.ready bytes i w.place some_key

  pub many : length bs ≡ need (length s.gathered)
  many = list_length m i w.ready.long w.place bytes few ∙ ap need (sym in-hand)

  pub keeps-all : keeps s bs ≡ bs
  keeps-all = take_all (need (length s.gathered)) bs (omega (arith, many))

  same-places : set ps i (held (stream_of h) s (keeps s bs)) ≡ ps
  same-places = ap (λ (l : List ℕ). set ps i (held (stream_of h) s l)) keeps-all ∙ ap (set ps i) (sym here) ∙ set-get_or ps i empty

  -- ── passed over ──

  asks-passed : (b : Option answer.Reason) → over s v ≡ b → is_none b ≡ false → asks s bs v ≡ false
  unfolding asks
  asks-passed none e n = absurd (false≢true (sym n))
  asks-passed (some r) e n = rw e

  pub passed : (r : Reason) → why (over s v) ≡ some r → is_none (over s v) ≡ false → returned (Passed r) m out ≡ lent m out (step_ask (asks s bs v) ps i s bs v)
  unfolding step_ask parsed_of
  passed r y n =
      let x = passes_over s h p r y in
      let a = asks-passed (over s v) refl n in
      unwritten m w.ready bytes out (store ps i (stream_of h) bs (proceed s v)) (Passed r)
      (ap (λ (z : Session). set ps i (held (stream_of h) z (keeps z bs))) x.1.0 ∙ same-places) (sym x.0) out (sym (x.1.1 out))
      ∙ ap (λ (b : Bool). lent m out (step_ask b ps i s bs v)) (sym a)

  -- ── over ──

  -- the session that waits for the next transfer
  pub over-is : (o : code.Session) → o ≡ idle (next c.expected) (pick h.head.start h.time c.time) c.follows
      → held (stream_of_key k) (waiting o.expected o.time o.follows) [] ≡ held (stream_of h) (closed s (since_of s v)) []
  unfolding parsed_of
  over-is o e =
      ap₂ (λ x (z : code.Session). held x (waiting z.expected z.time z.follows) []) w.stream e
      ∙ ap (λ (z : code.Session). held (stream_of h) (waiting (next z.expected) (pick h.head.start h.time z.time) z.follows) []) coded-is

  pub over-waits : (o : code.Session) → o ≡ idle (next c.expected) (pick h.head.start h.time c.time) c.follows → Waits m i k o
  over-waits o e =
      subst (λ (x : code.Session). Waits m i k x) (sym e)
      (record {
        ready = w.ready;
        place = w.place;
        stream = ap stream_fits w.stream ∙ w.fits;
        expected = omega arith;
        follows = omega (arith, ap (λ (x : code.Session). x.follows) coded-is, fits.follows);
        toggle = refl;
        len = refl;
      })

  pub held-len : c.len ≡ count_at m i
  held-len = ap (λ (x : code.Session). x.len) coded-is ∙ in-hand

  pub over-ready : (c.expected < 32) × (c.len ≤ 514)
  over-ready = (omega (arith, ap (λ (x : code.Session). x.expected) coded-is, fits.expected), omega (arith, ap (λ (x : code.Session). x.len) coded-is, in-hand, few))

  all-length : length (s.gathered ++ p) ≡ count_at m i + length p
  all-length = length-append s.gathered p ∙ omega (arith, in-hand)

  -- what the rules ask of a frame that is awaited
  pub asks-awaited : is_none (over s v) ≡ true → asks s bs v ≡ (leb (length (s.gathered ++ p)) 514 && (not (h.head.start && h.head.end) && ltb (length bs) (need (length (s.gathered ++ p)))))
  unfolding asks parsed_of
  asks-awaited n = go (over s v) refl n
    where
      go : (b : Option answer.Reason) → over s v ≡ b → is_none b ≡ true
          → asks_if b s bs v ≡ (leb (length (s.gathered ++ p)) 514 && (not (h.head.start && h.head.end) && ltb (length bs) (need (length (s.gathered ++ p)))))
      go none e x = refl
      go (some r) e x = absurd (false≢true x)

  module _ (awaited : is_none (over s v) ≡ true) where
    pub too_long : 514 < count_at m i + length p → (o : code.Session) → o ≡ idle (next c.expected) (pick h.head.start h.time c.time) c.follows
        → (m' : List ℕ) → m' ≡ written m (set ps i (held (stream_of_key k) (waiting o.expected o.time o.follows) []))
        → returned TooLong m' out ≡ lent m out (step_ask (asks s bs v) ps i s bs v)
    unfolding step_ask parsed_of
    too_long g o e m' f =
        let a : asks s bs v ≡ false = asks-awaited awaited ∙ ap (λ (b : Bool). b && (not (h.head.start && h.head.end) && ltb (length bs) (need (length (s.gathered ++ p))))) (lt-leb (length (s.gathered ++ p)) 514 (omega (arith, all-length, g))) in
        let x = goes_over s h p awaited (omega (arith, in-hand, g)) in
        results (ap (λ (y : Out). told y.answer) (sym x))
        (f ∙ ap (λ (y : Place). written m (set ps i y)) (over-is o e) ∙ ap (λ (y : Out). written m (set ps i (held (stream_of h) y.session (keeps y.session bs)))) (sym x))
        (ap (λ (y : Out). out_after y.answer out) (sym x))
        ∙ ap (λ (b : Bool). lent m out (step_ask b ps i s bs v)) (sym a)

    -- ── taken ──

    module _ (room : count_at m i + length p ≤ 514) where
      all-few : length s.gathered + length p ≤ 514
      all-few = omega (arith, in-hand, room)

      -- an end, whatever blocks the session had
      pub ended : h.head.end ≡ true → (cs : List ℕ) (r : Answer) (out' : List ℕ) → Closes h (s.gathered ++ p) r out out'
          → (o : code.Session) → o ≡ idle (next c.expected) (pick h.head.start h.time c.time) c.follows
          → (m' : List ℕ) → m' ≡ written m (set ps i (held (stream_of_key k) (waiting o.expected o.time o.follows) []))
          → returned r m' out' ≡ lent m out (store ps i (stream_of h) cs (proceed s v))
      ended l cs r out' d o e m' f =
          let x = goes-out s h p awaited all-few l r out out' d in
          results x.0
          (f ∙ ap (λ (y : Place). written m (set ps i y)) (over-is o e) ∙ ap (λ (y : Session). written m (set ps i (held (stream_of h) y (keeps y cs)))) (sym x.1.0))
          x.1.1

      -- the bytes in hand and those of the frame, gathered
      pub gathered-all : (z a b : List ℕ) → length z ≡ 514 → a ≡ splice z 0 (take c.len (joined m (span m (block_lists_at + i * blocks_each) (need c.len))))
          → b ≡ splice a c.len p → take (c.len + length p) b ≡ s.gathered ++ p
      unfolding session_at gathered_at blocks_of
      gathered-all z a b lz ea eb =
          let n : c.len ≡ count_at m i = ap (λ (x : code.Session). x.len) coded-is ∙ in-hand in
          let g : take c.len (joined m (span m (block_lists_at + i * blocks_each) (need c.len))) ≡ s.gathered =
          ap (λ (x : ℕ). take x (joined m (span m (block_lists_at + i * blocks_each) (need x)))) n in
          let zero : c.len ≡ 0 + c.len = omega arith in
          let q : b ≡ splice z 0 (s.gathered ++ p) =
          splice-next z a b 0 c.len s.gathered p (omega (arith, lz, n, room)) (in-hand ∙ sym n) (ea ∙ ap (splice z 0) g) (eb ∙ ap (λ (x : ℕ). splice a x p) zero) in
          ap (take (c.len + length p)) q ∙ take-splice z 0 (s.gathered ++ p) (omega (arith, lz, all-length, room)) (c.len + length p) (omega (arith, all-length, n))

      pub blocks-small : Small (span m (block_lists_at + i * blocks_each) (need c.len))
      unfolding blocks_of
      blocks-small =
          let n : c.len ≡ count_at m i = ap (λ (x : code.Session). x.len) coded-is ∙ in-hand in
          subst (λ (x : ℕ). Small (span m (block_lists_at + i * blocks_each) (need x))) (sym n) (small m w.ready bytes i w.place some_key)

      pub len_is : c.len ≡ count_at m i
      len_is = ap (λ (x : code.Session). x.len) coded-is ∙ in-hand

      -- a single frame has nothing before it
      pub alone : h.head.start ≡ true → s.gathered ++ p ≡ p
      alone k = ap (λ (l : List ℕ). l ++ p) (nothing s.gathered (awaited-start s h p awaited k))
        where
          nothing : (l : List ℕ) → length l ≡ 0 → l ≡ []
          nothing [] z = refl
          nothing (x ∷ l) z = absurd (omega (arith, z))

      -- the frame asks for a block where it is one of several and those of the session are too few
      abbrev single : Bool
      single = h.head.start && h.head.end

      asks-if : (x y : Bool) → single ≡ x → ltb (length bs) (need (length (s.gathered ++ p))) ≡ y → asks s bs v ≡ (not x && y)
      asks-if x y e f =
          asks-awaited awaited ∙ ap (λ (b : Bool). b && (not single && ltb (length bs) (need (length (s.gathered ++ p))))) (le-leb (length (s.gathered ++ p)) 514 (omega (arith, all-length, room)))
          ∙ ap₂ (λ (a b : Bool). not a && b) e f

      count : length bs ≡ need (count_at m i)
      count = many ∙ ap need in-hand

      pub asks-more : single ≡ false → need (count_at m i) < need (count_at m i + length p) → asks s bs v ≡ true
      asks-more e l = asks-if false true e (lt-ltb (length bs) (need (length (s.gathered ++ p))) (omega (arith, count, ap need all-length, l)))

      -- a single frame
      pub single-ended : single ≡ true → (r : Answer) (out' : List ℕ) → Closes h (take (length p) p) r out out'
          → (o : code.Session) → o ≡ idle (next c.expected) (pick h.head.start h.time c.time) c.follows
          → (m' : List ℕ) → m' ≡ written m (set ps i (held (stream_of_key k) (waiting o.expected o.time o.follows) []))
          → returned r m' out' ≡ lent m out (step_ask (asks s bs v) ps i s bs v)
      unfolding step_ask parsed_of
      single-ended e r out' d o q m' f =
          ended (and_elim_right h.head.start h.head.end e) bs r out'
          (subst (λ (l : List ℕ). Closes h l r out out') (take_all (length p) p (omega arith) ∙ sym (alone (and_elim_left h.head.start h.head.end e))) d) o q m' f
          ∙ ap (λ (b : Bool). lent m out (step_ask b ps i s bs v)) (sym (asks-if true (ltb (length bs) (need (length (s.gathered ++ p)))) e refl))

      -- the blocks of the session are enough
      pub enough : single ≡ false → need (count_at m i + length p) ≤ need (count_at m i)
          → lent m out (store ps i (stream_of h) (grown_blocks m i (count_at m i + length p)) (proceed s v)) ≡ lent m out (step_ask (asks s bs v) ps i s bs v)
      unfolding step_ask parsed_of
      enough e l =
          ap (λ (b : Bool). lent m out (store ps i (stream_of h) (pick b (bs ++ (count_trailing_zeros blocks_max (free_of m) ∷ [])) bs) (proceed s v)))
          (le-ltb (need (count_at m i)) (need (count_at m i + length p)) l)
          ∙ ap (λ (b : Bool). lent m out (step_ask b ps i s bs v))
          (sym (asks-if false false e (le-ltb (length bs) (need (length (s.gathered ++ p))) (omega (arith, count, ap need all-length, l)))))

      pub first-few : h.head.start ≡ true → c.len + length p ≤ 512
      first-few k = omega (arith, len_is, in-hand, awaited-start s h p awaited k, w.payload)

      -- ── more to come ──

      abbrev more : code.Session
      more = taken c h.head.start h.time (length p)

      pub grows : h.head.end ≡ false → (need (count_at m i) < need (count_at m i + length p) → count_trailing_zeros blocks_max (free_of m) < blocks_max) → (d : code.Session) → d ≡ more → Grows m i d p
      grows l b d e =
          subst (λ (x : code.Session). Grows m i x p) (sym e)
          (record {
            ready = w.ready;
            place = w.place;
            key = some_key;
            len = ap (λ (x : ℕ). x + length p) len_is;
            few = omega (arith, len_is, room);
            some = w.whole l;
            short = w.payload;
            expected = over-ready.0;
            follows = omega (arith, ap (λ (x : code.Session). x.follows) coded-is, fits.follows);
            block = λ x. b (omega (arith, x, len_is));
          })

      grown-many : length (grown_blocks m i (count_at m i + length p)) ≡ need (count_at m i + length p)
      grown-many = go (ltb (need (count_at m i)) (need (count_at m i + length p))) refl
        where
          go : (t : Bool) → ltb (need (count_at m i)) (need (count_at m i + length p)) ≡ t
              → length (pick t (bs ++ (count_trailing_zeros blocks_max (free_of m) ∷ [])) bs) ≡ need (count_at m i + length p)
          go true e = length-append bs (count_trailing_zeros blocks_max (free_of m) ∷ []) ∙ omega (arith, count, ltb-true (need (count_at m i)) (need (count_at m i + length p)) e, w.payload)
          go false e = omega (arith, count, ltb-false (need (count_at m i)) (need (count_at m i + length p)) e)

      grown-is : (d : code.Session) → d ≡ more → grown m i d p ≡ held (stream_of h) (added s h.head.start h.time p) (grown_blocks m i (count_at m i + length p))
      unfolding session_at
      grown-is d e =
          ap (λ (x : code.Session). grown m i x p) (e ∙ ap (λ (x : code.Session). taken x h.head.start h.time (length p)) coded-is)
          ∙ ap₂ (λ x (n : ℕ). held x (added s h.head.start h.time p) (grown_blocks m i (n + length p))) (ap stream_of_key w.key ∙ w.stream) in-hand

      pub went_on : h.head.end ≡ false → (d : code.Session) → d ≡ more → (m' : List ℕ) → m' ≡ written m (set ps i (grown m i d p))
          → returned Taken m' out ≡ lent m out (store ps i (stream_of h) (grown_blocks m i (count_at m i + length p)) (proceed s v))
      went_on l d e m' f =
          let x = goes_on s h p awaited all-few l in
          let cs = grown_blocks m i (count_at m i + length p) in
          let kept : keeps (added s h.head.start h.time p) cs ≡ cs = take_all (need (length (s.gathered ++ p))) cs (omega (arith, grown-many, all-length)) in
          results (ap (λ (y : Out). told y.answer) (sym x))
          (f ∙ ap (λ (y : Place). written m (set ps i y)) (grown-is d e ∙ ap (held (stream_of h) (added s h.head.start h.time p)) (sym kept))
          ∙ ap (λ (y : Out). written m (set ps i (held (stream_of h) y.session (keeps y.session cs)))) (sym x))
          (ap (λ (y : Out). out_after y.answer out) (sym x))

      -- after an end nothing is in hand, so that no block is kept
      shut : h.head.end ≡ true → (proceed s v).session ≡ closed s (since_of s v)
      shut l =
          let x = closing h.head.start (sum_ok h.signature (s.gathered ++ p)) (s.gathered ++ p) (parsed_of h []) in
          (goes-out s h p awaited all-few l (told x) out (out_after x out) (record { answer = refl; out = refl })).1.0

      pub any-blocks : h.head.end ≡ true → (cs ds : List ℕ) → lent m out (store ps i (stream_of h) cs (proceed s v)) ≡ lent m out (store ps i (stream_of h) ds (proceed s v))
      any-blocks l cs ds =
          let e : keeps (proceed s v).session cs ≡ keeps (proceed s v).session ds = ap (λ (y : Session). keeps y cs) (shut l) ∙ sym (ap (λ (y : Session). keeps y ds) (shut l)) in
          results refl (ap (λ (y : List ℕ). written m (set ps i (held (stream_of h) (proceed s v).session y))) e) refl

-- ── the code's tests are those on the session of the place ──

module _ (s : Session) (c : code.Session) (e : c ≡ coded s) (h : Incoming) (p : List ℕ) where
  pub restarts-at : (b : Bool) → b ≡ restarts (bare c) (parsed_of h []) → (a : Bool) → b ≡ a → restarts s (parsed_of h p) ≡ a
  restarts-at b t a q = sym (t ∙ ap (λ (x : code.Session). restarts (bare x) (parsed_of h [])) e ∙ restarts-whole s h p) ∙ q

  pub awaited-at : (b : Bool) → b ≡ is_none (over (bare c) (parsed_of h [])) → (a : Bool) → b ≡ a → is_none (over s (parsed_of h p)) ≡ a
  awaited-at b t a q = sym (t ∙ ap (λ (x : code.Session). is_none (over (bare x) (parsed_of h []))) e ∙ ap is_none (over-whole s h p)) ∙ q

  pub reason-at : (r : Reason) → why (over (bare c) (parsed_of h [])) ≡ some r → why (over s (parsed_of h p)) ≡ some r
  reason-at r t = sym (ap (λ (x : code.Session). why (over (bare x) (parsed_of h []))) e ∙ ap why (over-whole s h p)) ∙ t

-- toggle 0, where nothing is in hand
pub toggle-at : (s : Session) (c : code.Session) → c ≡ coded s → (not s.toggle || not (is_empty s.gathered)) ≡ true → c.len ≡ 0 → c.toggle ≡ false
toggle-at s c e k z = ap (λ (x : code.Session). x.toggle) e ∙ go s.toggle s.gathered k (sym (ap (λ (x : code.Session). x.len) e) ∙ z)
  where
    go : (b : Bool) (g : List ℕ) → (not b || not (is_empty g)) ≡ true → length g ≡ 0 → b ≡ false
    go false g k z = refl
    go true [] k z = sym k
    go true (x ∷ g) k z = absurd (omega arith)
