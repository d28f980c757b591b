-- What each call leaves of a queue, and so what lists of calls do.
use mathlib.Core.Path.{◌≡◌, refl, sym, ap, ◌∙◌}
use mathlib.Core.Bool.{Bool, true, false, not}
use mathlib.Core.List.{List, [], ◌∷◌, ◌++◌, append_assoc, append-nil}
use Prim.Native.Nat.{ℕ, suc, ◌+◌, ◌/◌, ◌%◌, ◌^◌, ◌≤◌, ◌<◌}
use native.Mathlib.Omega.{arith}
use borrow.Author.Tests.{ltb-false, le-ltb, eqb-true}
use lib.Dec.{eqb, ltb}
use lib.ListN.{length}
use Rattle.rules.specs.Limits.{frame_record}
use Rattle.rules.specs.Tests.{pick}
use Rattle.std.specs.Prelude.{Ok, Err}
use Rattle.queue.specs.Answer.{error_number, number_of, refusal}
use Rattle.queue.specs.Calls.{returned, shown, first, looked, after_setup, after_put, without_first, after_take}
use Rattle.queue.specs.Laws.{Queue, SetupLaws, Call, puts, takes, after_call, after_calls, is_done, head, entered, taken, with_id, QueueLasts, InTurn, LowestFirst, AnswersInRange}
use Rattle.queue.specs.Layout.{records_at, capacity, count_of, queue_of, sound_queue, records_of, holding}
use Rattle.queue.specs.Queue.{Record, id_of, first_fault, put_all, in_order}
use Rattle.queue.specs.declared.answer.QueueError.{QueueError}
use Rattle.queue.specs.declared.answer.QueueError.TheVariants.{LargeId, BadLength, OutputSmall, Full, PartRecord, Faulty}
use Rattle.queue.proofs.Lasting.{queue-held, sound-held, queue-of-held}
use Rattle.queue.proofs.Order.{length-put}
use Rattle.queue.proofs.Places.{Sized, length-queued, sized-queued, sized-given, sized-put}
use Rattle.queue.proofs.Soundness.{long-enough, few, fit, records-fine}
use Rattle.queue.proofs.Sorted.{first-lowest, rest-ordered, put-ordered, lowest, with_append, with-put}

-- ── setup ──

module _ (m : List ℕ) (h : records_at ≤ length m) where
  is_held : (after_setup m).queue ≡ holding m []
  unfolding after_setup
  is_held = rw (le-ltb (length m) records_at h)

  nothing : in_order [] ≡ true
  unfolding in_order
  nothing = refl

  setup-empty : queue_of (after_setup m).queue ≡ []
  setup-empty = ap queue_of is_held ∙ queue-held m [] tt h (omega arith) (omega arith)

  setup-sound : sound_queue (after_setup m).queue ≡ true
  setup-sound = ap sound_queue is_held ∙ sound-held m [] tt h (omega arith) (omega arith) nothing

pub setup-laws : SetupLaws
setup-laws = record { empty = setup-empty; sound = setup-sound }

-- ── one call ──

-- a put leaves the queue or puts all in
data Put (m p : List ℕ) : Type 0 where
  none : is_done (after_put m p).answer ≡ false → (after_put m p).queue ≡ m → Put m p
  all : is_done (after_put m p).answer ≡ true → (after_put m p).queue ≡ holding m (put_all (queue_of m) (records_of p)) → first_fault (records_of p) ≡ 0
      → length (queue_of m) + length (records_of p) ≤ capacity (length m) → Put m p

put-case : (m p : List ℕ) → sound_queue m ≡ true → Put m p
unfolding after_put
put-case m p s = go (eqb (length p % frame_record) 0) refl (eqb (first_fault (records_of p)) 0) refl (ltb (capacity (length m)) (length (queue_of m) + length (records_of p))) refl where
  go : (a : Bool) → eqb (length p % frame_record) 0 ≡ a → (b : Bool) → eqb (first_fault (records_of p)) 0 ≡ b → (c : Bool)
      → ltb (capacity (length m)) (length (queue_of m) + length (records_of p)) ≡ c → Put m p
  go false ea b eb c ec = none (rw (s, ea)) (rw (s, ea))
  go true ea false eb c ec = none (rw (s, ea, eb)) (rw (s, ea, eb))
  go true ea true eb true ec = none (rw (s, ea, eb, ec)) (rw (s, ea, eb, ec))
  go true ea true eb false ec =
      all (rw (s, ea, eb, ec)) (rw (s, ea, eb, ec)) (eqb-true (first_fault (records_of p)) 0 eb) (ltb-false (capacity (length m)) (length (queue_of m) + length (records_of p)) ec)

module _ (m : List ℕ) (k : Queue m) where
  old : Sized (queue_of m)
  old = sized-queued m (count_of m) (fit m k.sound)

  -- records that there is room for
  module _ (p : List ℕ) (f : first_fault (records_of p) ≡ 0) (room : length (queue_of m) + length (records_of p) ≤ capacity (length m)) where
    abbrev new : List Record
    new = put_all (queue_of m) (records_of p)

    sized_new : Sized new
    sized_new = sized-put (records_of p) (queue_of m) (sized-given p 0 (length p / frame_record) (omega arith)) old

    few-new : length new ≤ capacity (length m)
    few-new = omega (arith, length-put (records_of p) (queue_of m))

    small-new : length new < 2 ^ 64
    unfolding capacity
    small-new = omega (arith, few-new, k.slice)

    queue-new : queue_of (holding m new) ≡ new
    queue-new = queue-held m new sized_new (long-enough m k.sound) few-new small-new

    lasts-new : Queue (holding m new)
    lasts-new = queue-of-held m new sized_new (long-enough m k.sound) few-new small-new (put-ordered (records_of p) (queue_of m) f (records-fine m k.sound)) k.slice

  -- the queue without its first
  module _ (r : Record) (q : List Record) (is : queue_of m ≡ r ∷ q) where
    whole : Sized (r ∷ q)
    whole = rw is at old

    ordered : in_order (r ∷ q) ≡ true
    ordered = ap in_order (sym is) ∙ records-fine m k.sound

    count : suc (length q) ≡ count_of m
    count = ap length (sym is) ∙ length-queued m (count_of m)

    few-left : length q ≤ capacity (length m)
    few-left = omega (arith, count, few m k.sound)

    small-left : length q < 2 ^ 64
    unfolding capacity
    small-left = omega (arith, few-left, k.slice)

    queue-left : queue_of (holding m q) ≡ q
    queue-left = queue-held m q whole.1 (long-enough m k.sound) few-left small-left

    lasts-left : Queue (holding m q)
    lasts-left = queue-of-held m q whole.1 (long-enough m k.sound) few-left small-left (rest-ordered r q ordered) k.slice

  -- a put, by cases
  put-lasts : (p : List ℕ) → Put m p → Queue (after_put m p).queue
  put-lasts p (none d e) = rw e k
  put-lasts p (all d e f room) = rw e (lasts-new p f room)

  put-turns : (id : ℕ) (p : List ℕ) → Put m p → with_id id (queue_of (after_put m p).queue) ≡ with_id id (queue_of m) ++ with_id id (pick (is_done (after_put m p).answer) (records_of p) [])
  unfolding with_id
  put-turns id p (none d e) = rw (d, e) (sym (append-nil (with_id id (queue_of m))))
  put-turns id p (all d e f room) = rw (d, e, queue-new p f room) (with-put id (records_of p) (queue_of m) f (records-fine m k.sound))

  -- a take, by cases
  take-lasts : Queue (after_take m).queue
  unfolding after_take
  take-lasts = rw k.sound (go (queue_of m) refl) where
    go : (q : List Record) → queue_of m ≡ q → Queue (without_first m (queue_of m)).queue
    go [] e = rw e k
    go (r ∷ q) e = rw e (lasts-left r q e)

  take-turns : (id : ℕ) → with_id id (queue_of m) ≡ with_id id (head (queue_of m)) ++ with_id id (queue_of (after_take m).queue)
  unfolding after_take with_id
  take-turns id = rw k.sound (go (queue_of m) refl) where
    go : (q : List Record) → queue_of m ≡ q → with_id id (queue_of m) ≡ with_id id (head (queue_of m)) ++ with_id id (queue_of (without_first m (queue_of m)).queue)
    go [] e = rw e (rw e refl)
    go (r ∷ q) e = rw e (rw (queue-left r q e) (with_append id (r ∷ []) q))

-- ── lists of calls ──

call-lasts : (m : List ℕ) (c : Call) → Queue m → Queue (after_call m c)
call-lasts m (puts p) k = put-lasts m k p (put-case m p k.sound)
call-lasts m takes k = take-lasts m k

pub queue-lasts : QueueLasts
unfolding after_calls
queue-lasts m [] k = k
queue-lasts m (c ∷ cs) k = queue-lasts (after_call m c) cs (call-lasts m c k)

pub in-turn : InTurn
unfolding after_calls entered taken with_id
in-turn m [] k id = append-nil (with_id id (queue_of m))
in-turn m (puts p ∷ cs) k id =
    let x = pick (is_done (after_put m p).answer) (records_of p) [] in
    ap (λ l. with_id id (queue_of m) ++ l) (with_append id x (entered (after_put m p).queue cs))
    ∙ sym (append_assoc (with_id id (queue_of m)) (with_id id x) (with_id id (entered (after_put m p).queue cs)))
    ∙ ap (λ l. l ++ with_id id (entered (after_put m p).queue cs)) (sym (put-turns m k id p (put-case m p k.sound)))
    ∙ in-turn (after_put m p).queue cs (call-lasts m (puts p) k) id
in-turn m (takes ∷ cs) k id =
    ap (λ l. l ++ with_id id (entered (after_take m).queue cs)) (take-turns m k id)
    ∙ append_assoc (with_id id (head (queue_of m))) (with_id id (queue_of (after_take m).queue)) (with_id id (entered (after_take m).queue cs))
    ∙ ap (λ l. with_id id (head (queue_of m)) ++ l) (in-turn (after_take m).queue cs (call-lasts m takes k) id)
    ∙ sym (append_assoc (with_id id (head (queue_of m))) (with_id id (taken (after_take m).queue cs)) (with_id id (queue_of (after_calls (after_take m).queue cs))))
    ∙ ap (λ l. l ++ with_id id (queue_of (after_calls (after_take m).queue cs))) (sym (with_append id (head (queue_of m)) (taken (after_take m).queue cs)))

pub lowest-first : LowestFirst
lowest-first m k r x q xs ys is e =
    let o : in_order (r ∷ q) ≡ true = ordered m k r q is in
    lowest (id_of r) x xs ys (rw e at (rest-ordered r q o)) (rw e at (first-lowest r q o))

-- ── numbers ──

small : (e : QueueError) → error_number e ≤ 20
small LargeId = omega arith
small BadLength = omega arith
small OutputSmall = omega arith
small Full = omega arith
small PartRecord = omega arith
small Faulty = omega arith

put-range : (m p : List ℕ) → number_of (after_put m p).answer ≤ 20
unfolding after_put
put-range m p = go (sound_queue m) (eqb (length p % frame_record) 0) (eqb (first_fault (records_of p)) 0) (ltb (capacity (length m)) (length (queue_of m) + length (records_of p))) where
  go : (s a b c : Bool)
      → number_of
      (pick (not s) (returned (Err Faulty) m)
      (pick a
      (pick b (pick c (returned (Err Full) m) (returned (Ok (tt {0})) (holding m (put_all (queue_of m) (records_of p))))) (returned (Err (refusal (first_fault (records_of p)))) m))
      (returned (Err PartRecord) m))).answer ≤ 20
  go false a b c = omega arith
  go true false b c = omega arith
  go true true false c = small (refusal (first_fault (records_of p)))
  go true true true true = omega arith
  go true true true false = omega arith

take_range : (m : List ℕ) → number_of (after_take m).answer ≤ 20
unfolding after_take
take_range m = go (sound_queue m) (queue_of m) where
  go : (s : Bool) (q : List Record) → number_of (pick (not s) (returned (Err Faulty) m) (without_first m q)).answer ≤ 20
  go false q = omega arith
  go true [] = omega arith
  go true (r ∷ q) = omega arith

look-range : (m out : List ℕ) → number_of (looked m out).answer ≤ 20
unfolding looked
look-range m out = go (sound_queue m) (queue_of m) (ltb (length out) frame_record) refl where
  go : (s : Bool) (q : List Record) (b : Bool) → ltb (length out) frame_record ≡ b → number_of (pick (not s) (shown (Err Faulty) out) (first q out)).answer ≤ 20
  go false q b e = omega arith
  go true [] b e = omega arith
  go true (r ∷ q) true e = rw e (omega arith)
  go true (r ∷ q) false e = rw e (omega arith)

pub in-range : AnswersInRange
in-range = record { puts = put-range; takes = take_range; looks = look-range }
