-- A block provided: old sessions with bytes in hand are emptied, the frame's own session is not one of them.
use mathlib.Core.Path.{◌≡◌, refl, sym, ap, ap₂, subst, ◌∙◌}
use mathlib.Core.Bool.{Bool, true, false, false≢true, not, ◌&&◌}
use mathlib.Core.List.{List, [], ◌∷◌, ◌++◌, map}
use mathlib.Core.Option.{Option, none, some}
use Prim.Native.Nat.{ℕ, ◌+◌, ◌^◌, ◌<◌}
use native.Mathlib.Omega.{arith}
use borrow.Author.Tests.{eqb-true, eqb-false, ltb-true, lt-ltb}
use lib.Count.{count_trailing_zeros}
use lib.Dec.{eqb, ltb}
use lib.ListN.{length, get_or, set, get_or-map}
use lib.Seq.{get_or-set_other}
use Rattle.answers.specs.declared.Answer.TheVariants.{NoBlock}
use Rattle.bits.specs.Order.{Octets}
use Rattle.frame.specs.Key.{stream_of_key}
use Rattle.receiver.specs.Receive.{returned, lent}
use Rattle.receiver.specs.inside.Place.{Met, Takes}
use Rattle.receiver.proofs.Lent.{results, lent-over}
use Rattle.receiver.proofs.Placed.{session-is, blocks-are, key-is, count-is, coded-as}
use Rattle.receiver.proofs.Steps.{here, coded-is, in-hand, over-is, asks-more}
use Rattle.receiver.proofs.Kept as kept
use Rattle.rules.specs.Blocks.{need, keeps, stale, relieved, free_block, cleared, asks}
use Rattle.rules.specs.Check.{Parsed}
use Rattle.rules.specs.Limits.{sessions_max, blocks_max}
use Rattle.rules.specs.Reception.{store, step_block, step_ask}
use Rattle.rules.specs.Session.{Session, waiting, next, closed, since_of, over, proceed}
use Rattle.rules.specs.Table.{Place, empty, held, Places}
use Rattle.rules.specs.Tests.{pick, is_none}
use Rattle.session.specs.declared.Incoming.{Incoming}
use Rattle.session.specs.declared.Session as code
use Rattle.session.specs.inside.Session.{idle, stream_of, parsed_of}
use Rattle.sessions.specs.inside.Place.{grown_blocks}
use Rattle.sessions.proofs.Eased.{there, eased-there}
use Rattle.state.proofs.Free.{free-lowest}
use Rattle.state.proofs.Good.{Good, good-table, view-written, ready-written}
use Rattle.state.proofs.Soundness.{key-lt}
use Rattle.state.proofs.Table.{Settled, written_over, place_of}
use Rattle.state.specs.Layout.{free_of, count_at, blocks_of, session_at, place_at, places_of}
use Rattle.state.specs.Place.{free_set, written}
use Rattle.state.specs.inside.Ready.{Ready}

module _ (m : List ℕ) (i k : ℕ) (c : code.Session) (h : Incoming) (p out : List ℕ) (w : Met m i k c h p out) (bytes : Octets m) where
  abbrev s : Session
  s = session_at m i

  abbrev bs : List ℕ
  bs = blocks_of m i

  abbrev v : Parsed
  v = parsed_of h p

  abbrev ps : Places
  ps = places_of m

  abbrev qs : Places
  qs = cleared h.time (places_of m)

  good-cleared : Good qs
  good-cleared = kept.good-cleared m i k c h p out w bytes

  -- the frame's own session stays
  pub own-stays : get_or qs i empty ≡ held (stream_of h) (session_at m i) (blocks_of m i)
  unfolding cleared
  own-stays = go (is_none (free_block (places_of m)))
    where
      go : (b : Bool) → get_or (pick b (map (relieved h.time) (places_of m)) (places_of m)) i empty ≡ held (stream_of h) (session_at m i) (blocks_of m i)
      go true =
          get_or-map (relieved h.time) (places_of m) i empty ∙ ap (relieved h.time) (here m i k c h p out w bytes)
          ∙ ap (λ (b : Bool). pick b (held (stream_of h) (closed (session_at m i) (session_at m i).since) []) (held (stream_of h) (session_at m i) (blocks_of m i))) w.calm
      go false = here m i k c h p out w bytes

  -- what is written after it is as if written at once
  pub over-cleared : (q : Place) → Good (set qs i q) → written (written m qs) (set qs i q) ≡ written m (set qs i q)
  unfolding cleared
  over-cleared q g =
      written_over m qs (set qs i q) w.ready.long (good-table qs good-cleared) (good-table (set qs i q) g) (λ l x. each l x (eqb l i) refl)
    where
      kept : (b : Bool) (l : ℕ) → l < sessions_max
          → Settled m l (get_or (pick b (map (relieved h.time) (places_of m)) (places_of m)) l empty) (get_or (pick b (map (relieved h.time) (places_of m)) (places_of m)) l empty)
      kept true l x =
          subst (λ (y : Place). Settled m l y y) (sym (get_or-map (relieved h.time) (places_of m) l empty)) (eased-there m w.ready bytes h.time l x (get_or (places_of m) l empty) refl)
      kept false l x = there m w.ready bytes h.time l x (get_or (places_of m) l empty)

      each : (l : ℕ) → l < sessions_max → (b : Bool) → eqb l i ≡ b → Settled m l (get_or qs l empty) (get_or (set qs i q) l empty)
      each l x true e =
          let z = eqb-true l i e in
          subst (λ (y : ℕ). Settled m y (get_or qs y empty) (get_or (set qs i q) y empty)) (sym z)
          (subst (λ (y : Place). Settled m i y (get_or (set qs i q) i empty)) (here m i k c h p out w bytes ∙ sym own-stays) (there m w.ready bytes h.time i w.place (get_or (set qs i q) i empty)))
      each l x false e =
          subst (λ (y : Place). Settled m l (get_or qs l empty) y) (sym (get_or-set_other qs i l q empty (eqb-false l i e))) (kept (is_none (free_block (places_of m))) l x)

  module _ (m₁ : List ℕ) (is : m₁ ≡ written m qs) (bytes₁ : Octets m₁) where
    view : places_of m₁ ≡ qs
    view = ap places_of is ∙ view-written m qs w.ready.long good-cleared

    pub ready₁ : Ready m₁
    ready₁ = subst Ready (sym is) (ready-written m qs w.ready.long good-cleared)

    here₁ : place_at m₁ i ≡ held (stream_of h) (session_at m i) (blocks_of m i)
    here₁ = sym (place_of m₁ i w.place) ∙ ap (λ (x : Places). get_or x i empty) view ∙ own-stays

    pub session₁ : session_at m₁ i ≡ session_at m i
    session₁ = session-is m₁ ready₁ bytes₁ i w.place (stream_of h) (session_at m i) (blocks_of m i) here₁

    pub blocks₁ : blocks_of m₁ i ≡ blocks_of m i
    blocks₁ = blocks-are m₁ ready₁ bytes₁ i w.place (stream_of h) (session_at m i) (blocks_of m i) here₁

    pub met₁ : Met m₁ i k c h p out
    met₁ =
        record {
          ready = ready₁;
          place = w.place;
          key =
              key-is m₁ ready₁ bytes₁ i w.place (stream_of h) (session_at m i) (blocks_of m i) here₁ k
              (omega (arith, w.key, key-lt m bytes w.ready.long i w.place)) w.stream;
          stream = w.stream;
          fits = w.fits;
          coded = coded-is m i k c h p out w bytes ∙ coded-as m₁ ready₁ bytes₁ i w.place (stream_of h) (session_at m i) (blocks_of m i) here₁;
          calm = ap (stale h.time) session₁ ∙ w.calm;
          start = w.start;
          transfer = w.transfer;
          interface = w.interface;
          payload = w.payload;
          whole = w.whole;
          room = w.room;
        }

    pub count₁ : count_at m₁ i ≡ count_at m i
    count₁ = sym (count-is m₁ ready₁ bytes₁ i w.place (stream_of h) (session_at m i) (blocks_of m i) here₁) ∙ in-hand m i k c h p out w bytes

    pub takes₁ : Takes m i h p → Takes m₁ i h p
    takes₁ t = record { awaited = ap (λ (s : Session). is_none (over s (parsed_of h p))) session₁ ∙ t.awaited; few = omega (arith, count₁, t.few) }

    -- the block that is found
    lowest₁ : free_block qs ≡ pick (ltb (count_trailing_zeros blocks_max (free_of m₁)) blocks_max) (some (count_trailing_zeros blocks_max (free_of m₁))) none
    lowest₁ =
        free-lowest qs
        ∙ ap (λ (x : ℕ). pick (ltb (count_trailing_zeros blocks_max x) blocks_max) (some (count_trailing_zeros blocks_max x)) none) (sym (ready₁.free ∙ ap free_set view))

    pub some₁ : (b : Bool) → b ≡ not (is_none (free_block qs)) → b ≡ true → count_trailing_zeros blocks_max (free_of m₁) < blocks_max
    some₁ b e t = go (ltb (count_trailing_zeros blocks_max (free_of m₁)) blocks_max) refl (sym (e ∙ ap (λ (x : Option ℕ). not (is_none x)) lowest₁) ∙ t)
      where
        go : (x : Bool) → ltb (count_trailing_zeros blocks_max (free_of m₁)) blocks_max ≡ x → not (is_none (pick {A = Option ℕ} x (some (count_trailing_zeros blocks_max (free_of m₁))) none)) ≡ true
            → count_trailing_zeros blocks_max (free_of m₁) < blocks_max
        go true q z = ltb-true (count_trailing_zeros blocks_max (free_of m₁)) blocks_max q
        go false q z = absurd (false≢true z)

    found₁ : count_trailing_zeros blocks_max (free_of m₁) < blocks_max → free_block qs ≡ some (count_trailing_zeros blocks_max (free_of m₁))
    found₁ l =
        lowest₁ ∙ ap (λ (b : Bool). pick b (some (count_trailing_zeros blocks_max (free_of m₁))) none) (lt-ltb (count_trailing_zeros blocks_max (free_of m₁)) blocks_max l)

    none₁ : (b : Bool) → b ≡ not (is_none (free_block qs)) → b ≡ false → free_block qs ≡ none
    none₁ b e t = go (free_block qs) (sym e ∙ t)
      where
        go : (o : Option ℕ) → not (is_none o) ≡ false → o ≡ none
        go none z = refl
        go (some x) z = absurd (false≢true (sym z))

    -- ── the frame asks for a block ──

    module _ (time : h.time < 2 ^ 64) (since : c.time < 2 ^ 64) (t : Takes m i h p) (several : (h.head.start && h.head.end) ≡ false)
        (short : need (count_at m i) < need (count_at m i + length p)) where
      asked : asks s bs v ≡ true
      asked = asks-more m i k c h p out w bytes t.awaited t.few several short

      -- the step on the table that was cleared is the step
      over-step : lent m₁ out (step_block (free_block qs) qs i s bs v) ≡ lent m out (step_ask (asks s bs v) ps i s bs v)
      unfolding step_ask step_block parsed_of
      over-step =
          go (free_block qs) (rw asked at (kept.good-step m i k c h p out w bytes time since))
          ∙ ap (λ (b : Bool). lent m out (step_ask b ps i s bs v)) (sym asked)
        where
          go : (o : Option ℕ) → Good (step_block o qs i s bs v).places → lent m₁ out (step_block o qs i s bs v) ≡ lent m out (step_block o qs i s bs v)
          go none g =
              lent-over m m₁ out (step_block none qs i s bs v)
              (ap (λ (x : List ℕ). written x (step_block none qs i s bs v).places) is ∙ over-cleared (held (stream_of h) (closed s (since_of s v)) []) g)
          go (some b) g =
              lent-over m m₁ out (step_block (some b) qs i s bs v)
              (ap (λ (x : List ℕ). written x (step_block (some b) qs i s bs v).places) is
              ∙ over-cleared (held (stream_of h) (proceed s v).session (keeps (proceed s v).session (bs ++ (b ∷ [])))) g)

      grown₁ : grown_blocks m₁ i (count_at m₁ i + length p) ≡ bs ++ (count_trailing_zeros blocks_max (free_of m₁) ∷ [])
      grown₁ =
          ap (λ (b : Bool). pick b (blocks_of m₁ i ++ (count_trailing_zeros blocks_max (free_of m₁) ∷ [])) (blocks_of m₁ i))
          (lt-ltb (need (count_at m₁ i)) (need (count_at m₁ i + length p)) (omega (arith, count₁, short)))
          ∙ ap (λ (l : List ℕ). l ++ (count_trailing_zeros blocks_max (free_of m₁) ∷ [])) blocks₁

      pub with-block : count_trailing_zeros blocks_max (free_of m₁) < blocks_max
          → lent m₁ out (store (places_of m₁) i (stream_of h) (grown_blocks m₁ i (count_at m₁ i + length p)) (proceed (session_at m₁ i) v)) ≡ lent m out (step_ask (asks s bs v) ps i s bs v)
      unfolding step_block parsed_of
      with-block l =
          ap (λ (x : Places). lent m₁ out (store x i (stream_of h) (grown_blocks m₁ i (count_at m₁ i + length p)) (proceed (session_at m₁ i) v))) view
          ∙ ap₂ (λ (x : List ℕ) (y : Session). lent m₁ out (store qs i (stream_of h) x (proceed y v))) grown₁ session₁
          ∙ ap (λ (o : Option ℕ). lent m₁ out (step_block o qs i s bs v)) (sym (found₁ l)) ∙ over-step

      pub without-block : (b : Bool) → b ≡ not (is_none (free_block qs)) → b ≡ false
          → (o : code.Session) → o ≡ idle (next c.expected) (pick h.head.start h.time c.time) c.follows
          → (m' : List ℕ) → m' ≡ written m₁ (set (places_of m₁) i (held (stream_of_key k) (waiting o.expected o.time o.follows) []))
          → returned NoBlock m' out ≡ lent m out (step_ask (asks s bs v) ps i s bs v)
      unfolding step_block parsed_of
      without-block b e n o q m' f =
          results refl (f ∙ ap₂ (λ (x : Places) (y : Place). written m₁ (set x i y)) view (over-is m i k c h p out w bytes o q)) refl
          ∙ ap (λ (o : Option ℕ). lent m₁ out (step_block o qs i s bs v)) (sym (none₁ b e n)) ∙ over-step
