-- The table after a step fits the bytes again.
use mathlib.Core.Path.{◌≡◌, refl, sym, ap, subst, ◌∙◌}
use mathlib.Core.Bool.{Bool, true, false}
use mathlib.Core.List.{List, [], ◌∷◌, ◌++◌, map}
use mathlib.Core.Option.{Option, none, some}
use Prim.Native.Nat.{ℕ, ◌^◌, ◌<◌}
use native.Mathlib.Omega.{arith}
use lib.Dec.{ltb}
use lib.ListN.{length, set, length-set}
use lib.Seq.{set-get_or}
use Rattle.bits.specs.Order.{Octets}
use Rattle.receiver.specs.inside.Place.{Met}
use Rattle.receiver.proofs.Steps.{here, coded-is, fits, many}
use Rattle.rules.proofs.Lasting.{ParsedFits, fits-at}
use Rattle.rules.proofs.Shares.{Shared, shared_at}
use Rattle.rules.specs.Answer as answer
use Rattle.rules.specs.Blocks.{blocks_in, used, times, keeps, relieved, free_block, cleared, asks}
use Rattle.rules.specs.Check.{Parsed}
use Rattle.rules.specs.Limits.{sessions_max}
use Rattle.rules.specs.Reception.{Step, step_block, step_ask, step_at}
use Rattle.rules.specs.Session.{Session, closed, since_of, over, take_end, take_long, takes, proceed_if, proceed}
use Rattle.rules.specs.Sound.{places_fit}
use Rattle.rules.specs.Table.{Place, empty, held, Places}
use Rattle.rules.specs.Tests.{pick, is_empty, is_none}
use Rattle.session.specs.declared.Incoming.{Incoming}
use Rattle.session.specs.declared.Session as code
use Rattle.session.specs.inside.Session.{parsed_of}
use Rattle.sessions.proofs.Eased.{map-good}
use Rattle.state.proofs.Good.{AllTimed, Good, set-timed, good-view}
use Rattle.state.proofs.Table.{length-places}
use Rattle.state.specs.Layout.{blocks_of, session_at, places_of}

-- the time of a session is its own or the frame's
since-word : (s : Session) (v : Parsed) → s.since < 2 ^ 64 → v.time < 2 ^ 64 → since_of s v < 2 ^ 64
since-word s v a b = go v.start
  where
    go : (t : Bool) → pick t v.time s.since < 2 ^ 64
    go true = b
    go false = a

proceed-word : (s : Session) (v : Parsed) → s.since < 2 ^ 64 → v.time < 2 ^ 64 → (proceed s v).session.since < 2 ^ 64
unfolding proceed proceed_if takes take_long take_end
proceed-word s v a b = go (over s v)
  where
    end : (t : Bool) → (take_end t s v (s.gathered ++ v.payload)).session.since < 2 ^ 64
    end true = since-word s v a b
    end false = since-word s v a b

    long : (t : Bool) → (take_long t s v (s.gathered ++ v.payload)).session.since < 2 ^ 64
    long true = since-word s v a b
    long false = end v.last

    go : (o : Option answer.Reason) → (proceed_if o s v).session.since < 2 ^ 64
    go (some r) = a
    go none = long (ltb 514 (length (s.gathered ++ v.payload)))

some_bytes : (p : List ℕ) → 0 < length p → is_empty p ≡ false
some_bytes [] h = absurd (omega arith)
some_bytes (x ∷ p) h = refl

module _ (m : List ℕ) (i k : ℕ) (c : code.Session) (h : Incoming) (p out : List ℕ) (w : Met m i k c h p out) (bytes : Octets m) where
  abbrev s : Session
  s = session_at m i

  abbrev bs : List ℕ
  bs = blocks_of m i

  abbrev v : Parsed
  v = parsed_of h p

  abbrev ps : Places
  ps = places_of m

  pub good-cleared : Good (cleared h.time ps)
  unfolding cleared
  good-cleared = go (is_none (free_block ps))
    where
      go : (b : Bool) → Good (pick b (map (relieved h.time) ps) ps)
      go true = map-good m w.ready bytes h.time
      go false = good-view m w.ready bytes

  parsed-fits : ParsedFits v
  unfolding parsed_of
  parsed-fits = record { transfer = w.transfer; interface = w.interface; whole = λ e. some_bytes p (w.whole e); short = w.payload }

  -- the session is at its place already
  pub at_place : step_at ps i s bs v ≡ step_ask (asks s bs v) ps i s bs v
  unfolding step_at parsed_of
  at_place = ap (λ (x : Places). step_ask (asks s bs v) x i s bs v) (ap (set ps i) (sym (here m i k c h p out w bytes)) ∙ set-get_or ps i empty)

  module _ (time : h.time < 2 ^ 64) (since : c.time < 2 ^ 64) where
    since-s : s.since < 2 ^ 64
    since-s = omega (arith, since, ap (λ (x : code.Session). x.time) (coded-is m i k c h p out w bytes))

    time-v : v.time < 2 ^ 64
    unfolding parsed_of
    time-v = time

    put-timed : (qs : Places) → Good qs → (x : Session) → x.since < 2 ^ 64 → (cs : List ℕ)
        → (length (set qs i (held v.stream x cs)) ≡ sessions_max) × AllTimed (set qs i (held v.stream x cs))
    put-timed qs g x t cs = (length-set qs i (held v.stream x cs) ∙ g.whole, set-timed qs i (held v.stream x cs) g.timed t)

    ask-timed : (b : Bool) → (length (step_ask b ps i s bs v).places ≡ sessions_max) × AllTimed (step_ask b ps i s bs v).places
    unfolding step_ask step_block parsed_of
    ask-timed false = put-timed ps (good-view m w.ready bytes) (proceed s v).session (proceed-word s v since-s time-v) (keeps (proceed s v).session bs)
    ask-timed true = block (free_block (cleared h.time ps))
      where
        block : (o : Option ℕ) → (length (step_block o (cleared h.time ps) i s bs v).places ≡ sessions_max) × AllTimed (step_block o (cleared h.time ps) i s bs v).places
        block none = put-timed (cleared h.time ps) good-cleared (closed s (since_of s v)) (since-word s v since-s time-v) (keeps (closed s (since_of s v)) bs)
        block (some b) =
            put-timed (cleared h.time ps) good-cleared (proceed s v).session (proceed-word s v since-s time-v) (keeps (proceed s v).session (bs ++ (b ∷ [])))

    pub good-step : Good (step_ask (asks s bs v) ps i s bs v).places
    unfolding parsed_of
    good-step =
        record {
          whole = (ask-timed (asks s bs v)).0;
          fit = ap (λ (x : Step). places_fit x.places) (sym at_place) ∙ fits-at ps v w.ready.fit parsed-fits w.fits i s bs (fits m i k c h p out w bytes) (many m i k c h p out w bytes);
          shared =
              subst (λ (x : Step). Shared (used x.places)) at_place
              (shared_at ps i s bs v (omega (arith, w.place, length-places m)) (λ b. omega (arith, ap (λ (x : Place). times b (blocks_in x)) (here m i k c h p out w bytes))) w.calm
              (good-view m w.ready bytes).shared);
          timed = (ask-timed (asks s bs v)).1;
        }
