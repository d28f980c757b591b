-- A session that waits for a start is put into a place, and the frame goes on from there.
use mathlib.Core.Path.{◌≡◌, refl, sym, ap, ap₂, subst, ◌∙◌}
use mathlib.Core.Bool.{Bool, true, false, and-false}
use mathlib.Core.List.{List, [], ◌∷◌, map}
use mathlib.Core.Option.{Option, none, some}
use Prim.Native.Nat.{ℕ, ◌^◌, ◌<◌}
use native.Mathlib.Omega.{arith}
use borrow.Author.Tests.{eqb-true, eqb-false}
use lib.Dec.{eqb}
use lib.ListN.{length, get_or, set, length-map, length-set}
use lib.Seq.{get_or-set_same, get_or-set_other}
use Rattle.bits.specs.Order.{Octets}
use Rattle.frame.specs.Key.{key_of, stream_of_key}
use Rattle.receiver.specs.Receive.{lent}
use Rattle.receiver.specs.inside.Called.{Called}
use Rattle.receiver.specs.inside.Place.{Met}
use Rattle.receiver.proofs.Kept.{good-step}
use Rattle.receiver.proofs.Lent.{lent-over, head-key, key-word}
use Rattle.receiver.proofs.Placed.{session-is, blocks-are, key-is, coded-as}
use Rattle.rules.specs.Blocks.{keeps, stale, relieved, free_block, cleared, asks}
use Rattle.rules.specs.Check.{Parsed}
use Rattle.rules.specs.Limits.{sessions_max, interfaces_max}
use Rattle.rules.specs.Reception.{Step, step_block, step_ask, step_at}
use Rattle.rules.specs.Session.{Session, old, waiting, closed, since_of, proceed}
use Rattle.rules.specs.Sound.{stream_fits}
use Rattle.rules.specs.Table.{Place, empty, held, Places}
use Rattle.rules.specs.Tests.{pick, is_none}
use Rattle.session.specs.declared.Incoming.{Incoming}
use Rattle.session.specs.declared.Session as code
use Rattle.session.specs.inside.Session.{coded, stream_of, parsed_of}
use Rattle.sessions.proofs.Eased.{there}
use Rattle.sessions.proofs.Waited as waited
use Rattle.sessions.specs.inside.Place.{Waits}
use Rattle.state.proofs.Faultless.{ready}
use Rattle.state.proofs.Good.{Good, good-table, view-written, ready-written}
use Rattle.state.proofs.Table.{Settled, idle, written_over, place_of, length-places}
use Rattle.state.specs.Layout.{blocks_of, session_at, place_at, places_of}
use Rattle.state.specs.Place.{written}
use Rattle.state.specs.inside.Ready.{Ready}

cleared-length : (t : ℕ) (ps : Places) → length (cleared t ps) ≡ length ps
unfolding cleared
cleared-length t ps = go (is_none (free_block ps))
  where
    go : (b : Bool) → length (pick b (map (relieved t) ps) ps) ≡ length ps
    go true = length-map ps (relieved t)
    go false = refl

-- a session by value that waits for a start
abbrev pub Idle : code.Session → Type 0
Idle c = (c.expected < 32) × ((c.follows < interfaces_max) × ((c.toggle ≡ false) × (c.len ≡ 0)))

module _ (m : List ℕ) (i k : ℕ) (c : code.Session) (h : Incoming) (p out : List ℕ) (q : Called m h p out) (bytes : Octets m) (inside : i < sessions_max)
    (key : k ≡ key_of (stream_of h)) (x : Idle c) where
  abbrev v : Parsed
  v = parsed_of h p

  abbrev ps : Places
  ps = places_of m

  abbrev s : Session
  s = waiting c.expected c.time c.follows

  abbrev qs : Places
  qs = set ps i (held (stream_of_key k) s [])

  stream : stream_of_key k ≡ stream_of h
  stream = ap stream_of_key key ∙ head-key (stream_of h) q.transfer_type q.type q.source q.destination

  word : k < 4294967296
  word = omega (arith, key, key-word (stream_of h) q.transfer_type q.type q.source q.destination)

  pub waits : Waits m i k c
  waits =
      record {
        ready = ready m q.sound;
        place = inside;
        stream = ap stream_fits stream ∙ q.fits;
        expected = x.0;
        follows = x.1.0;
        toggle = x.1.1.0;
        len = x.1.1.1;
      }

  -- the place is held after the step, too
  put-settled : (zs : Places) → length zs ≡ length ps → (t : Session) (cs : List ℕ) → Settled m i (get_or qs i empty) (get_or (set zs i (held v.stream t cs)) i empty)
  put-settled zs n t cs =
      idle (stream_of_key k) v.stream s t cs (get_or-set_same ps i (held (stream_of_key k) s []) empty (omega (arith, inside, length-places m)))
      (get_or-set_same zs i (held v.stream t cs) empty (omega (arith, inside, n, length-places m)))

  abbrev zs : Places
  zs = set ps i (held v.stream s [])

  zs-length : length zs ≡ length ps
  zs-length = length-set ps i (held v.stream s [])

  ask-settled : (b : Bool) → Settled m i (get_or qs i empty) (get_or (step_ask b zs i s [] v).places i empty)
  unfolding step_ask step_block
  ask-settled false = put-settled zs zs-length (proceed s v).session (keeps (proceed s v).session [])
  ask-settled true = block (free_block (cleared v.time zs))
    where
      block : (o : Option ℕ) → Settled m i (get_or qs i empty) (get_or (step_block o (cleared v.time zs) i s [] v).places i empty)
      block none = put-settled (cleared v.time zs) (cleared-length v.time zs ∙ zs-length) (closed s (since_of s v)) (keeps (closed s (since_of s v)) [])
      block (some b) = put-settled (cleared v.time zs) (cleared-length v.time zs ∙ zs-length) (proceed s v).session (keeps (proceed s v).session (b ∷ []))

  module _ (time : h.time < 2 ^ 64) (since : c.time < 2 ^ 64) (m₁ : List ℕ) (is : m₁ ≡ written m qs) (bytes₁ : Octets m₁) where
    good : Good qs
    good = waited.good m i k c bytes word since waits

    view : places_of m₁ ≡ qs
    view = ap places_of is ∙ view-written m qs waits.ready.long good

    ready₁ : Ready m₁
    ready₁ = subst Ready (sym is) (ready-written m qs waits.ready.long good)

    here₁ : place_at m₁ i ≡ held (stream_of_key k) s []
    here₁ =
        sym (place_of m₁ i inside) ∙ ap (λ (y : Places). get_or y i empty) view
        ∙ get_or-set_same ps i (held (stream_of_key k) s []) empty (omega (arith, inside, length-places m))

    session₁ : session_at m₁ i ≡ s
    session₁ = session-is m₁ ready₁ bytes₁ i inside (stream_of_key k) s [] here₁

    blocks₁ : blocks_of m₁ i ≡ []
    blocks₁ = blocks-are m₁ ready₁ bytes₁ i inside (stream_of_key k) s [] here₁

    by_value : c ≡ coded s
    by_value = λ j. record { expected = c.expected; toggle = x.1.1.0 j; time = c.time; follows = c.follows; len = x.1.1.1 j }

    pub met₁ : Met m₁ i k c h p out
    met₁ =
        record {
          ready = ready₁;
          place = inside;
          key = key-is m₁ ready₁ bytes₁ i inside (stream_of_key k) s [] here₁ k word refl;
          stream = stream;
          fits = q.fits;
          coded = by_value ∙ coded-as m₁ ready₁ bytes₁ i inside (stream_of_key k) s [] here₁;
          calm = ap (stale h.time) session₁ ∙ and-false (old h.time s);
          start = q.start;
          transfer = q.transfer;
          interface = q.interface;
          payload = q.payload;
          whole = q.whole;
          room = q.room;
        }

    at_once : step_ask (asks (session_at m₁ i) (blocks_of m₁ i) v) (places_of m₁) i (session_at m₁ i) (blocks_of m₁ i) v ≡ step_at ps i s [] v
    unfolding step_at parsed_of
    at_once =
        ap (λ (y : Places). step_ask (asks (session_at m₁ i) (blocks_of m₁ i) v) y i (session_at m₁ i) (blocks_of m₁ i) v) (view ∙ ap (λ d. set ps i (held d s [])) stream)
        ∙ ap₂ (λ (y : Session) (l : List ℕ). step_ask (asks y l v) (set ps i (held (stream_of h) s [])) i y l v) session₁ blocks₁

    settled : (l : ℕ) → l < sessions_max → (b : Bool) → eqb l i ≡ b → Settled m l (get_or qs l empty) (get_or (step_at ps i s [] v).places l empty)
    unfolding step_at
    settled l n true e =
        subst (λ (y : ℕ). Settled m y (get_or qs y empty) (get_or (step_at ps i s [] v).places y empty)) (sym (eqb-true l i e)) (ask-settled (asks s [] v))
    settled l n false e =
        subst (λ (y : Place). Settled m l y (get_or (step_at ps i s [] v).places l empty)) (sym (get_or-set_other ps i l (held (stream_of_key k) s []) empty (eqb-false l i e)))
        (there m waits.ready bytes h.time l n (get_or (step_at ps i s [] v).places l empty))

    pub begun : lent m₁ out (step_ask (asks (session_at m₁ i) (blocks_of m₁ i) v) (places_of m₁) i (session_at m₁ i) (blocks_of m₁ i) v) ≡ lent m out (step_at ps i s [] v)
    begun =
        ap (lent m₁ out) at_once
        ∙ lent-over m m₁ out (step_at ps i s [] v)
        (ap (λ (y : List ℕ). written y (step_at ps i s [] v).places) is
        ∙ written_over m qs (step_at ps i s [] v).places waits.ready.long (good-table qs good)
        (good-table (step_at ps i s [] v).places (subst (λ (y : Step). Good y.places) at_once (good-step m₁ i k c h p out met₁ bytes₁ time since)))
        (λ l n. settled l n (eqb l i) refl))
