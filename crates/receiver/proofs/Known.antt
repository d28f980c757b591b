-- The stream's session is in place i: it goes on, or restarts.
use mathlib.Core.Path.{◌≡◌, refl, sym, ap, ap₂, subst, ◌∙◌}
use mathlib.Core.Bool.{Bool, true, false}
use mathlib.Core.List.{List, []}
use Prim.Native.Nat.{ℕ, ◌<◌}
use native.Mathlib.Omega.{arith}
use Rattle.bits.specs.Order.{Octets}
use Rattle.frame.specs.Key.{key_of, stream_of_key}
use Rattle.receiver.specs.Receive.{lent}
use Rattle.receiver.specs.inside.Called.{Called}
use Rattle.receiver.specs.inside.Place.{Met}
use Rattle.receiver.proofs.Begun.{Idle}
use Rattle.receiver.proofs.Kept.{at_place}
use Rattle.receiver.proofs.Lent.{head-key, key-some}
use Rattle.receiver.proofs.Placed.{coded-as}
use Rattle.receiver.proofs.Steps.{keeps-all}
use Rattle.rules.proofs.Lasting.{met-calm}
use Rattle.rules.specs.Blocks.{keeps, stale, asks}
use Rattle.rules.specs.Check.{Parsed}
use Rattle.rules.specs.Limits.{sessions_max}
use Rattle.rules.specs.Reception.{step_ask, step_at, step_held}
use Rattle.rules.specs.Session.{Session, waiting, next, restarts, restarted, met}
use Rattle.rules.specs.Table.{Place, held, Places}
use Rattle.rules.specs.Tests.{pick}
use Rattle.session.specs.declared.Incoming.{Incoming}
use Rattle.session.specs.declared.Session as code
use Rattle.session.specs.inside.Session.{idle, coded, stream_of, parsed_of}
use Rattle.sessions.specs.inside.Place.{coded_at}
use Rattle.state.proofs.Faultless.{ready}
use Rattle.state.proofs.Held.{table-held, session-fits}
use Rattle.state.proofs.Table.{place_of}
use Rattle.state.specs.Layout.{key_at, blocks_of, session_at, place_at, places_of}

module _ (m : List ℕ) (i k : ℕ) (h : Incoming) (p out : List ℕ) (q : Called m h p out) (bytes : Octets m) (inside : i < sessions_max)
    (key : k ≡ key_of (stream_of h)) (at : key_at m i ≡ k) where
  abbrev v : Parsed
  v = parsed_of h p

  abbrev ps : Places
  ps = places_of m

  abbrev s : Session
  s = session_at m i

  abbrev bs : List ℕ
  bs = blocks_of m i

  stream : stream_of_key k ≡ stream_of h
  stream = ap stream_of_key key ∙ head-key (stream_of h) q.transfer_type q.type q.source q.destination

  some_key : key_at m i ≡ 0 → ⊥
  some_key z = key-some (stream_of h) q.named (sym key ∙ sym at ∙ z)

  here : place_at m i ≡ held (stream_of h) s bs
  here = sym (place_of m i inside) ∙ table-held m (ready m q.sound) bytes i inside some_key ∙ ap (λ x. held x s bs) (ap stream_of_key at ∙ stream)

  module _ (c : code.Session) (is : c ≡ coded_at m i) where
    pub coded-is : c ≡ coded s
    coded-is = is ∙ sym (coded-as m (ready m q.sound) bytes i inside (stream_of h) s bs here)

    pub expected : c.expected < 32
    expected = omega (arith, ap (λ (x : code.Session). x.expected) coded-is, (session-fits m (ready m q.sound) bytes i inside some_key).expected)

    -- ── it restarts ──

    module _ (n : ℕ) (e : n ≡ pick h.head.start h.head.transfer (next h.head.transfer)) (d : code.Session) (f : d ≡ idle n c.time h.interface) where
      pub anew : Idle d
      anew = subst Idle (sym f) (subst (λ (x : ℕ). x < 32) (sym e) (small h.head.start), (q.interface, (refl, refl)))
        where
          small : (b : Bool) → pick b h.head.transfer (next h.head.transfer) < 32
          small true = q.transfer
          small false = omega arith

      session : restarts s v ≡ true → met s v ≡ waiting d.expected d.time d.follows
      unfolding met restarted parsed_of
      session y =
          ap (λ (b : Bool). pick b (restarted s v) s) y
          ∙ sym (ap (λ (x : code.Session). waiting x.expected x.time x.follows) f
          ∙ ap₂ (λ (x t : ℕ). waiting x t h.interface) e (ap (λ (x : code.Session). x.time) coded-is))

      pub restarting : restarts s v ≡ true → lent m out (step_at ps i (waiting d.expected d.time d.follows) [] v) ≡ lent m out (step_held ps i (place_at m i) v)
      restarting y =
          ap (λ (x : Session). lent m out (step_at ps i x (keeps x bs) v)) (sym (session y))
          ∙ ap (λ (x : Place). lent m out (step_held ps i x v)) (sym here)

    -- ── it goes on ──

    module _ (y : restarts s v ≡ false) where
      same : met s v ≡ s
      unfolding met
      same = ap (λ (b : Bool). pick b (restarted s v) s) y

      pub meets : Met m i k c h p out
      unfolding parsed_of
      meets =
          record {
            ready = ready m q.sound;
            place = inside;
            key = at;
            stream = stream;
            fits = q.fits;
            coded = is;
            calm = ap (stale h.time) (sym same) ∙ met-calm s v;
            start = q.start;
            transfer = q.transfer;
            interface = q.interface;
            payload = q.payload;
            whole = q.whole;
            room = q.room;
          }

      pub going_on : lent m out (step_ask (asks s bs v) ps i s bs v) ≡ lent m out (step_held ps i (place_at m i) v)
      going_on =
          ap (lent m out) (sym (at_place m i k c h p out meets bytes))
          ∙ ap (λ (l : List ℕ). lent m out (step_at ps i s l v)) (sym (keeps-all m i k c h p out meets bytes))
          ∙ ap (λ (x : Session). lent m out (step_at ps i x (keeps x bs) v)) (sym same)
          ∙ ap (λ (x : Place). lent m out (step_held ps i x v)) (sym here)
