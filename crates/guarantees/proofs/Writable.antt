-- What a step stores is the times and the bytes of frames: the layout holds them if it holds those that were there.
use mathlib.Core.Path.{◌≡◌, refl, sym, subst}
use mathlib.Core.Bool.{Bool, true, false}
use mathlib.Core.List.{List, [], ◌∷◌, ◌++◌, map}
use mathlib.Core.Logic.{◌⊎◌, inl, inr}
use mathlib.Core.Option.{Option, none, some}
use Prim.Native.Nat.{ℕ, zero, suc, ◌-◌, ◌^◌, ◌≤◌, ◌<◌}
use native.Mathlib.Omega.{arith}
use borrow.Author.Tests.{ltb-true, ltb-false}
use lib.Dec.{ltb}
use lib.ListN.{length, get_or, set}
use Rattle.bits.proofs.Octets.{octets-append, octets-take}
use Rattle.bits.specs.Order.{Octets}
use Rattle.guarantees.specs.Received.{Typed}
use Rattle.guarantees.specs.Written.{Writable, WritableAt, AllWritable}
use Rattle.rules.proofs.Landing.{Cleared, untouched, eased, landed}
use Rattle.rules.proofs.Lasting.{test_fits, sound-fits, sound-shared, sound-size}
use Rattle.rules.proofs.Shares.{times-append, times-here}
use Rattle.rules.specs.Answer.{Reason}
use Rattle.rules.specs.Blocks.{keeps, blocks_in, used, times, stale, relieved}
use Rattle.rules.specs.Check.{Reception, Parsed, parsed, check}
use Rattle.rules.specs.Frame.{Arrival, is_anonymous}
use Rattle.rules.specs.Reception.{step_at, step_new, step_start, session_in, step_seek, step_anonymous, step_checked, step}
use Rattle.rules.specs.Session.{Session, restarts, restarted, met, over, since_of, closed, take_end, take_long, takes, proceed_if, proceed, fresh}
use Rattle.rules.specs.Setup.{Setup}
use Rattle.rules.specs.Sound.{stream_fits, session_fits, place_fits, places_fit, sound}
use Rattle.rules.specs.Table.{Place, empty, held, Places, seek, holds, place_for}
use Rattle.rules.specs.Tests.{pick}
use Rattle.state.proofs.Bools.{and_left, and_right}
use Rattle.state.proofs.Good.{AllTimed, Good}
use Rattle.state.proofs.Written.{AllPlain}

-- ── one session ──

-- what a frame brings to one
record Brings (v : Parsed) : Type 0 where
  time : v.time < 2 ^ 64
  bytes : Octets v.payload

module _ (s : Session) (v : Parsed) (h : Writable s) (b : Brings v) where
  since-lt : since_of s v < 2 ^ 64
  since-lt = go v.start where
    go : (c : Bool) → pick c v.time s.since < 2 ^ 64
    go true = b.time
    go false = h.since

  end-writable : (c : Bool) → Writable (take_end c s v (s.gathered ++ v.payload)).session
  unfolding take_end
  end-writable true = record { since = since-lt; bytes = tt }
  end-writable false = record { since = since-lt; bytes = octets-append s.gathered v.payload h.bytes b.bytes }

  long-writable : (c : Bool) → Writable (take_long c s v (s.gathered ++ v.payload)).session
  unfolding take_long
  long-writable true = record { since = since-lt; bytes = tt }
  long-writable false = end-writable v.last

  proceed-writable : Writable (proceed s v).session
  unfolding proceed proceed_if takes
  proceed-writable = go (over s v) where
    go : (o : Option Reason) → Writable (proceed_if o s v).session
    go (some r) = h
    go none = long-writable (ltb 514 (length (s.gathered ++ v.payload)))

met-writable : (s : Session) (v : Parsed) → Writable s → Writable (met s v)
unfolding met restarted
met-writable s v h = go (restarts s v) where
  go : (c : Bool) → Writable (pick c (restarted s v) s)
  go true = record { since = h.since; bytes = tt }
  go false = h

-- ── the table ──

set-writable : (ps : Places) (i : ℕ) (q : Place) → AllWritable ps → WritableAt q → AllWritable (set ps i q)
set-writable [] i q h k = tt
set-writable (p ∷ ps) zero q h k = (k, h.1)
set-writable (p ∷ ps) (suc i) q h k = (h.0, set-writable ps i q h.1 k)

at-writable : (ps : Places) (i : ℕ) → AllWritable ps → WritableAt (get_or ps i empty)
at-writable [] i h = tt
at-writable (p ∷ ps) zero h = h.0
at-writable (p ∷ ps) (suc i) h = at-writable ps i h.1

fresh-writable : (v : Parsed) → Brings v → Writable (fresh v)
fresh-writable v b = record { since = b.time; bytes = tt }

in-writable : (p : Place) (v : Parsed) → WritableAt p → Brings v → Writable (session_in p v)
in-writable empty v h b = fresh-writable v b
in-writable (held e s bs) v h b = h

-- an emptied session has no bytes, and its time stays
relieved-writable : (t : ℕ) (ps : Places) → AllWritable ps → AllWritable (map (relieved t) ps)
relieved-writable t [] h = tt
relieved-writable t (empty ∷ ps) h = (tt, relieved-writable t ps h.1)
relieved-writable t (held d s bs ∷ ps) h = (go (stale t s), relieved-writable t ps h.1) where
  go : (c : Bool) → WritableAt (pick c (held d (closed s s.since) []) (held d s bs))
  go true = record { since = h.0.since; bytes = tt }
  go false = h.0

cleared-writable : {t : ℕ} {ps qs : Places} → Cleared t ps qs → AllWritable ps → AllWritable qs
cleared-writable (untouched e) h = subst AllWritable (sym e) h
cleared-writable {t} {ps} (eased e) h = subst AllWritable (sym e) (relieved-writable t ps h)

module _ (ps : Places) (v : Parsed) (h : AllWritable ps) (b : Brings v) where
  at-step : (i : ℕ) (s : Session) (bs : List ℕ) → Writable s → AllWritable (step_at ps i s bs v).places
  at-step i s bs w =
      let l = landed ps i s bs v in
      subst AllWritable (sym l.is)
      (set-writable l.table i (held v.stream l.session l.blocks)
      (cleared-writable l.clear (set-writable ps i (held v.stream s bs) h w)) (ends l.either))
    where
      ends : {x : Session} → (x ≡ closed s (since_of s v)) ⊎ (x ≡ (proceed s v).session) → Writable x
      ends (inl e) = subst Writable (sym e) (record { since = since-lt s v w b; bytes = tt })
      ends (inr e) = subst Writable (sym e) (proceed-writable s v w b)

  new-writable : (o : Option ℕ) → AllWritable (step_new o ps v).places
  unfolding step_new
  new-writable none = h
  new-writable (some i) = at-step i (fresh v) [] (fresh-writable v b)

  start-writable : (c : Bool) → AllWritable (step_start c ps v).places
  unfolding step_start
  start-writable true = new-writable (place_for v.time ps)
  start-writable false = h

  seek-writable : (o : Option ℕ) → AllWritable (step_seek o ps v).places
  unfolding step_seek
  seek-writable none = start-writable v.start
  seek-writable (some i) =
      let p = get_or ps i empty in
      let s = session_in p v in
      at-step i (met s v) (keeps (met s v) (blocks_in p)) (met-writable s v (in-writable p v (at-writable ps i h) b))

  anonymous-writable : (c : Bool) → AllWritable (step_anonymous c ps v).places
  unfolding step_anonymous
  anonymous-writable true = h
  anonymous-writable false = seek-writable (seek (holds v.stream) ps)

  checked-writable : (o : Option ℕ) (c : Bool) → AllWritable (step_checked o c ps v).places
  unfolding step_checked
  checked-writable (some n) c = h
  checked-writable none c = anonymous-writable c

brings : (u : Setup) (f : Arrival) → Typed f.frame → Brings (parsed u f)
unfolding parsed
brings u f t = record { time = t.time; bytes = octets-take (length f.frame.bytes - 1) f.frame.bytes t.bytes }

pub step-writable : (u : Setup) (ps : Places) (r : Reception) → AllWritable ps → Typed r.arrival.frame → AllWritable (step u ps r).places
unfolding step
step-writable u ps r h t = checked-writable ps (parsed u r.arrival) h (brings u r.arrival t) (check u r) (is_anonymous r.arrival.frame.id)

-- ── a table without a fault, in the layout ──

all-timed : (ps : Places) → AllWritable ps → AllTimed ps
all-timed [] h = tt
all-timed (empty ∷ ps) h = (tt, all-timed ps h.1)
all-timed (held d s bs ∷ ps) h = (h.0.since, all-timed ps h.1)

pub good : (ps : Places) → sound ps ≡ true → AllWritable ps → Good ps
good ps ok h = record { whole = sound-size ps ok; fit = sound-fits ps ok; shared = sound-shared ps ok; timed = all-timed ps h }

-- the number of a block is a byte
octets-blocks : (bs : List ℕ) → ((b : ℕ) → 64 ≤ b → times b bs ≡ 0) → Octets bs
octets-blocks [] h = tt
octets-blocks (c ∷ bs) h =
    (below (ltb c 64) refl, octets-blocks bs (λ b k. omega (arith, h b k, times-append b (c ∷ []) bs)))
  where
    below : (t : Bool) → ltb c 64 ≡ t → c < 256
    below true e = omega (arith, ltb-true c 64 e)
    below false e = absurd (omega (arith, h c (ltb-false c 64 e), times-here c bs))

plain-from : (ps : Places) → places_fit ps ≡ true → ((b : ℕ) → 64 ≤ b → times b (used ps) ≡ 0) → AllWritable ps → AllPlain ps
unfolding used
plain-from [] e k h = tt
plain-from (empty ∷ ps) e k h = (tt, plain-from ps e k h.1)
plain-from (held d s bs ∷ ps) e k h =
    let f = test_fits s (and_left (session_fits s) _ (and_right (stream_fits d) _ (and_left (place_fits (held d s bs)) (places_fit ps) e))) in (
      ((omega (arith, f.expected), omega (arith, f.follows)), (h.0.bytes, octets-blocks bs (λ b g. omega (arith, k b g, times-append b bs (used ps))))),
      plain-from ps (and_right (place_fits (held d s bs)) (places_fit ps) e) (λ b g. omega (arith, k b g, times-append b bs (used ps))) h.1,
    )

pub all_plain : (ps : Places) → sound ps ≡ true → AllWritable ps → AllPlain ps
all_plain ps ok h = plain-from ps (sound-fits ps ok) (sound-shared ps ok).small h
