-- `receive_sound` meets its contract: the first check that refuses answers, and a frame that passes is accepted.
use mathlib.Core.Path.{◌≡◌, refl, sym, ap, subst, ◌∙◌}
use mathlib.Core.Bool.{Bool, true, false}
use mathlib.Core.List.{List}
use mathlib.Core.Option.{none, some}
use Prim.Native.Nat.{ℕ, ◌%◌, ◌≤◌, ◌<◌}
use native.Mathlib.Omega.{arith}
use lib.Dec.{eqb}
use lib.ListN.{length, get_or}
use Rattle.answers.specs.declared.Answer.TheVariants.{Refused}
use Rattle.bits.specs.Order.{Octets}
use Rattle.bits.proofs.Octets.{octets-all}
use Rattle.frame.specs.inside.Head.{head_of, head_tests_of}
use Rattle.frame.specs.inside.Head as head
use Rattle.frame.specs.declared.head.Head.{Head}
use Rattle.frame.proofs.Heads.{source_is, type-lt, transfer-type-lt, destination-lt}
use Rattle.receiver.specs.Receive.{returned, arrival_of, arriving, lent}
use Rattle.receiver.specs.inside.Called.{Accepted}
use Rattle.receiver.proofs.Checks.{read-refuses, head-refuses, not-subscribed, no-room, all-passed, accepted, heads, parsed-is, step-refused, step-accepted}
use Rattle.receiver.proofs.Lent.{untouched}
use Rattle.rules.proofs.Checks as checks
use Rattle.rules.proofs.Lasting.{stream-fits}
use Rattle.rules.proofs.Ordered.{Readable, readable, head-passes}
use Rattle.rules.specs.Answer.{refused}
use Rattle.rules.specs.Check.{Parsed, check, frame_check, first, or_zero}
use Rattle.rules.specs.Frame as rules
use Rattle.rules.specs.Frame.{tail_of, payload_of, is_start, is_end, toggle_of, is_anonymous}
use Rattle.rules.specs.Reception.{step, step_anonymous}
use Rattle.rules.specs.Setup.{subscribed, kind_of, signature_for}
use Rattle.rules.specs.Sound.{stream_fits}
use Rattle.rules.specs.Tests.{pick}
use Rattle.session.specs.inside.Session.{parsed_of}
use Rattle.state.specs.Layout.{setup_of, places_of}
use Rattle.state.specs.Sound.{sound_state}
use Rattle.subscriptions.proofs.Lookup.{under, not-asked}
use Rattle.subscriptions.specs.inside.Subscription.{asked}
use Rattle.std.specs.declared.option.Option as rust
use Rattle.state.proofs.Faultless.{long}
use borrow.Author.Rules.{rules}
use Rattle.receiver.proofs.receive_sound.Goals as goal
use Rattle.receiver.proofs.receive_sound.Goals.{After-find, After-refusal-refused, Else-unreadable-gt0, Start}

-- a frame that is refused leaves everything as it was
refusing : (m out : List ℕ) → sound_state m ≡ true → Octets m → (f : rules.Arrival) (n : ℕ) → check (setup_of m) (arriving f out) ≡ some n
    → returned (Refused n) m out ≡ lent m out (step (setup_of m) (places_of m) (arriving f out))
refusing m out fine b f n e =
    untouched m fine b out (record { answer = refused n; places = places_of m }) (Refused n) refl refl out refl
    ∙ ap (lent m out) (sym (step-refused (setup_of m) (places_of m) (arriving f out) n e))

-- what the look-up found is the signature that the frame is checked under
looked-up : (m : List ℕ) (id tail k : ℕ) (h : Head) (r : rust.Option ℕ) → h ≡ head_of id tail → k ≡ kind_of (head.stream_of h)
    → r ≡ asked (subscribed k h.type_id (setup_of m).subscriptions) → asked (signature_for (setup_of m) id) ≡ r
unfolding head_of
looked-up m id tail k h r d e g =
    sym (g ∙ ap (λ (x : ℕ). asked (subscribed x h.type_id (setup_of m).subscriptions)) e
    ∙ ap (λ (x : Head). asked (subscribed (kind_of (head.stream_of x)) x.type_id (setup_of m).subscriptions)) d)

kind-small : (t k : ℕ) → k ≡ pick (eqb t 0) 0 1 → k < 2
kind-small t k e = go (eqb t 0) e where
  go : (b : Bool) → k ≡ pick b 0 1 → k < 2
  go true q = omega arith
  go false q = omega arith

-- ── what is known on the way ──
read_ok : (c : Else-unreadable-gt0) → Readable c.args.id (length c.args.frame.now) c.args.interface
read_ok c = readable c.args.id (length c.args.frame.now) c.args.interface c.unreadable-unreadable.result c.unreadable-unreadable.ensures c.if-unreadable-gt0.false

-- the number of the checks 4 to 6
heads-number : (c : After-refusal-refused) → let a = c.args in
    c.refusal-refused.result ≡ or_zero (heads (setup_of a.state.now) a.id a.interface a.time a.frame.now a.out.now)
unfolding setup_of head_of
heads-number c =
    let a = c.args in
    c.refusal-refused.ensures ∙ ap (λ (h : Head). or_zero (first (head_tests_of (get_or a.state.now 0 0) h (length a.frame.now)))) c.read-h.ensures

-- the subscription that the frame's type has
found : (c : After-find) → asked (signature_for (setup_of c.args.state.now) c.args.id) ≡ c.find.result
found c =
    looked-up c.args.state.now c.args.id (tail_of c.args.frame.now) c.kind.result c.read-h.result c.find.result c.read-h.ensures c.kind.ensures c.find.ensures

type-fits : (id tail : ℕ) → (head_of id tail).type_id < 65536
unfolding head_of
type-fits id tail = type-lt id

-- what the frame is, from the checks that it passed
accepts : (s : Start) (h : Head) (g i : ℕ) → let a = s.args in h ≡ head_of a.id (tail_of a.frame.now) → Readable a.id (length a.frame.now) a.interface
    → (r : ℕ) → r ≡ or_zero (heads (setup_of a.state.now) a.id a.interface a.time a.frame.now a.out.now) → r ≤ 0 → 512 ≤ length a.out.now
    → i ≡ a.interface → frame_check (setup_of a.state.now) (arrival_of a.id a.frame.now a.interface a.time) ≡ none
    → Accepted a.state.now (record { head = h; signature = g; time = a.time; interface = i }) a.frame.now a.out.now
unfolding head_of
accepts s h g i e k r f z room by pass =
    let a = s.args in
    let bs = a.frame.now in
    let q = head-passes (setup_of a.state.now).own (rules.stream_of a.id) (is_start (tail_of bs)) (is_end (tail_of bs)) (toggle_of (tail_of bs)) (length bs) r f z in
    record {
      sound = s.requires;
      transfer = subst (λ (x : Head). x.transfer < 32) (sym e) (omega arith);
      start = subst (λ (x : Head). x.start ≡ true → x.toggle ≡ false) (sym e) q.first;
      transfer_type = subst (λ (x : Head). x.transfer_type < 3) (sym e) (transfer-type-lt a.id);
      type = subst (λ (x : Head). x.type_id < 65536) (sym e) (type-lt a.id);
      source = subst (λ (x : Head). x.source < 128) (sym e) (omega (arith, source_is a.id));
      named = subst (λ (x : Head). rules.unnamed (head.stream_of x) ≡ false → x.source ≡ 0 → ⊥) (sym e) q.named;
      destination = subst (λ (x : Head). x.destination < 128) (sym e) (destination-lt a.id);
      fits =
          subst (λ (x : Head). rules.unnamed (head.stream_of x) ≡ false → stream_fits (head.stream_of x) ≡ true) (sym e)
          (stream-fits (setup_of a.state.now) (arrival_of a.id bs a.interface a.time) (checks.accepted (setup_of a.state.now) (arrival_of a.id bs a.interface a.time) pass));
      whole = subst (λ (x : Head). x.end ≡ false → 1 < length bs) (sym e) (λ z. omega (arith, q.whole z));
      some_bytes = k.some_bytes;
      few_bytes = k.few_bytes;
      interface = omega (arith, k.interface);
      room = room;
    }

pub returns-then-unreadable-gt0 : goal.returns-then-unreadable-gt0
returns-then-unreadable-gt0 c =
    let a = c.args in
    refusing a.state.now a.out.now c.requires (octets-all c.args.state.now (search rules)) (arrival_of a.id a.frame.now a.interface a.time) c.unreadable-unreadable.result
    (read-refuses (setup_of a.state.now) a.id a.interface a.time a.frame.now a.out.now c.unreadable-unreadable.result c.unreadable-unreadable.ensures c.if-unreadable-gt0.true)

pub overflow_sub-n : goal.overflow_sub-n
overflow_sub-n c = omega (arith, (read_ok (goal.at.overflow_sub-n c).Else-unreadable-gt0).some_bytes)

pub bounds-frame-n : goal.bounds-frame-n
bounds-frame-n c = omega (arith, (read_ok (goal.at.bounds-frame-n c).Else-unreadable-gt0).some_bytes)

pub read-h-requires : goal.read-h-requires
read-h-requires c = (read_ok (goal.at.read-h-requires c).Else-unreadable-gt0).small

pub bounds-state-0 : goal.bounds-state-0
bounds-state-0 c = omega (arith, long c.args.state.now c.requires)

pub returns-then-refused-gt0 : goal.returns-then-refused-gt0
returns-then-refused-gt0 c =
    let a = c.args in
    refusing a.state.now a.out.now c.requires (octets-all c.args.state.now (search rules)) (arrival_of a.id a.frame.now a.interface a.time) c.refusal-refused.result
    (head-refuses (setup_of a.state.now) a.id a.interface a.time a.frame.now a.out.now c.unreadable-unreadable.result c.unreadable-unreadable.ensures c.if-unreadable-gt0.false
    c.refusal-refused.result (heads-number (goal.at.returns-then-refused-gt0 c).After-refusal-refused) c.if-refused-gt0.true)

pub find-requires : goal.find-requires
find-requires c = (
  long c.args.state.now c.requires,
  (
    kind-small c.read-h.result.transfer_type c.kind.result c.kind.ensures,
    subst (λ (h : Head). h.type_id < 65536) (sym c.read-h.ensures) (type-fits c.args.id _),
  ),
)

pub returns-then-out-lt-PAYLOAD : goal.returns-then-out-lt-PAYLOAD
returns-then-out-lt-PAYLOAD c =
    let a = c.args in
    let u = setup_of a.state.now in
    refusing a.state.now a.out.now c.requires (octets-all c.args.state.now (search rules)) (arrival_of a.id a.frame.now a.interface a.time) 8
    (no-room u a.id a.interface a.time a.frame.now a.out.now c.unreadable-unreadable.result c.unreadable-unreadable.ensures c.if-unreadable-gt0.false
    c.refusal-refused.result (heads-number (goal.at.returns-then-out-lt-PAYLOAD c).After-refusal-refused) c.if-refused-gt0.false _ (under (signature_for u a.id) _ (found (goal.at.returns-then-out-lt-PAYLOAD c).After-find ∙ c.in-Some.is)) c.if-out-lt-PAYLOAD.true)

pub accept-requires : goal.accept-requires
accept-requires c =
    let u = setup_of c.args.state.now in
    accepts (goal.at.accept-requires c).Start c.read-h.result _ _ c.read-h.ensures (read_ok (goal.at.accept-requires c).Else-unreadable-gt0) c.refusal-refused.result (heads-number (goal.at.accept-requires c).After-refusal-refused) c.if-refused-gt0.false c.if-out-lt-PAYLOAD.false (omega (arith, (read_ok (goal.at.accept-requires c).Else-unreadable-gt0).interface))
    (all-passed u c.args.id c.args.interface c.args.time c.args.frame.now c.args.out.now c.unreadable-unreadable.result c.unreadable-unreadable.ensures c.if-unreadable-gt0.false
    c.refusal-refused.result (heads-number (goal.at.accept-requires c).After-refusal-refused) c.if-refused-gt0.false _ (under (signature_for u c.args.id) _ (found (goal.at.accept-requires c).After-find ∙ c.in-Some.is)))

pub returns-in_default : goal.returns-in_default
returns-in_default c =
    let a = c.args in
    let u = setup_of a.state.now in
    refusing a.state.now a.out.now c.requires (octets-all c.args.state.now (search rules)) (arrival_of a.id a.frame.now a.interface a.time) 7
    (not-subscribed u a.id a.interface a.time a.frame.now a.out.now c.unreadable-unreadable.result c.unreadable-unreadable.ensures c.if-unreadable-gt0.false
    c.refusal-refused.result (heads-number (goal.at.returns-in_default c).After-refusal-refused) c.if-refused-gt0.false (not-asked (signature_for u a.id) (found (goal.at.returns-in_default c).After-find ∙ c.in_default.is)))

pub returns : goal.returns
unfolding head_of
returns c =
    let a = c.args in
    let m = a.state.now in
    let out = a.out.now in
    let bs = a.frame.now in
    let u = setup_of m in
    let q = under (signature_for u a.id) _ (found (goal.at.returns c).After-find ∙ c.in-Some.is) in
    let small : a.interface % 256 ≡ a.interface = omega (arith, (read_ok (goal.at.returns c).Else-unreadable-gt0).interface) in
    c.accept.ensures
    ∙ ap (λ (h : Head). lent m out (step_anonymous (rules.unnamed (head.stream_of h)) (places_of m) (parsed_of (record { head = h; signature = c.in-Some.signature; time = a.time; interface = a.interface % 256 }) (payload_of bs)))) c.read-h.ensures
    ∙ ap (λ (v : Parsed). lent m out (step_anonymous (is_anonymous a.id) (places_of m) v))
    (ap (λ (i : ℕ). parsed_of (record { head = head_of a.id (tail_of bs); signature = c.in-Some.signature; time = a.time; interface = i }) (payload_of bs)) small
    ∙ parsed-is u a.id a.interface a.time c.in-Some.signature bs q)
    ∙ ap (lent m out) (sym (step-accepted u (places_of m) (arriving (arrival_of a.id bs a.interface a.time) out)
    (accepted u a.id a.interface a.time bs out c.unreadable-unreadable.result c.unreadable-unreadable.ensures c.if-unreadable-gt0.false c.refusal-refused.result (heads-number (goal.at.returns c).After-refusal-refused) c.if-refused-gt0.false _ q c.if-out-lt-PAYLOAD.false)))
