-- A stream among those of a table: its lowest place, or none.
use mathlib.Core.Path.{◌≡◌, refl, sym, ap, ◌∙◌}
use mathlib.Core.Bool.{Bool, true, false}
use mathlib.Core.List.{List, [], ◌∷◌, ◌++◌, append-nil}
use Prim.Native.Nat.{ℕ, zero, suc, ◌+◌, ◌-◌, ◌%◌, ◌≤◌, ◌<◌}
use native.Mathlib.Numerals.{add-one}
use native.Mathlib.Omega.{arith}
use lib.ListN.{length, get_or}
use Rattle.bits.specs.Tabulate.{tabulate}
use Rattle.bits.proofs.Tabulate.{tab-append, tab-same, tab-snoc, length-tabulate}
use Rattle.judge_rules.specs.Good.{add}
use Rattle.judge_rules.specs.Limits.{streams_max}
use Rattle.judge_rules.specs.Verdict.{Entry, streams, state_of, put}
use Rattle.judge_rules.specs.inside.Brief.{Brief}
use Rattle.judge_stream.specs.inside.Kept.{brief_in}
use Rattle.judge_stream.specs.declared.Kept.{Kept}
use Rattle.rules.specs.Frame.{Stream, stream_of, same_stream, is_anonymous}
use Rattle.rules.proofs.Table.{same_refl, same-eq}
use Rattle.judge_streams.specs.inside.Table.{ids_at, kept_of, kept_at, Table, entry_of, entries_of, Found, Stored}
use Rattle.judge_streams.proofs.Keys.{same_key, other_key}

-- ── a list of entries, of which the first are of other streams ──

module _ (d : Stream) where
  abbrev Others : List (Entry Brief) → Type 0
  Others [] = Unit {0}
  Others (e ∷ es) = (same_stream e.stream d ≡ false) × Others es

  skip-state : (s : Brief) (es l : List (Entry Brief)) → Others es → state_of s d (es ++ l) ≡ state_of s d l
  unfolding state_of
  skip-state s [] l h = refl
  skip-state s (e ∷ es) l h = rw h.0 (skip-state s es l h.1)

  skip-put : (s : Brief) (es l : List (Entry Brief)) → Others es → put d s (es ++ l) ≡ es ++ put d s l
  unfolding put
  skip-put s [] l h = refl
  skip-put s (e ∷ es) l h = rw h.0 (ap (λ (x : List (Entry Brief)). e ∷ x) (skip-put s es l h.1))

  skip-add : (es l : List (Entry Brief)) → Others es → length (add d (streams (es ++ l))) ≡ length es + length (add d (streams l))
  unfolding streams add
  skip-add [] l h = sym (omega arith)
  skip-add (e ∷ es) l h = rw h.0 (ap suc (skip-add es l h.1) ∙ omega arith)

  others : (e : ℕ → Entry Brief) (i n : ℕ) → ((k : ℕ) → i ≤ k → k < i + n → same_stream (e k).stream d ≡ false) → Others (tabulate e i n)
  unfolding tabulate
  others e i zero h = tt
  others e i (suc n) h = (h i (omega arith) (omega arith), others e (suc i) n (λ k a b. h k (omega arith) (omega arith)))

streams-length : (es : List (Entry Brief)) → length (streams es) ≡ length es
unfolding streams
streams-length [] = refl
streams-length (e ∷ es) = ap suc (streams-length es)

split : {A : Type 0} (e : ℕ → A) (j n : ℕ) → j < n → tabulate e 0 n ≡ tabulate e 0 j ++ (e j ∷ tabulate e (suc j) (n - suc j))
unfolding tabulate
split e j n h =
    ap (tabulate e 0) (let q : n ≡ j + suc (n - suc j) = omega arith in q) ∙ tab-append e 0 j (suc (n - suc j))
    ∙ ap (λ (x : ℕ). tabulate e 0 j ++ tabulate e x (suc (n - suc j))) (let q : 0 + j ≡ j = omega arith in q)

-- ── the stream of an ID with a named source ──

module _ (t : List ℕ) (id : ℕ) (named : is_anonymous id ≡ false) where
  abbrev entry_at : List ℕ → ℕ → Entry Brief
  entry_at m i = entry_of (kept_at m i)

  abbrev count : ℕ
  count = get_or t 0 0

  -- its low bits are at place k, or they are not
  at_key : (k : ℕ) → get_or t (ids_at + k) 0 % 16777216 ≡ id % 16777216 → stream_of (kept_at t k).id ≡ stream_of id
  unfolding kept_of
  at_key k e = same_key (get_or t (ids_at + k) 0 % 4294967296) id (let q : get_or t (ids_at + k) 0 % 4294967296 % 16777216 ≡ get_or t (ids_at + k) 0 % 16777216 = omega arith in q ∙ e)

  not_at : (k : ℕ) → (get_or t (ids_at + k) 0 % 16777216 ≡ id % 16777216 → ⊥) → same_stream (entry_at t k).stream (stream_of id) ≡ false
  unfolding kept_of
  not_at k ne = go (same_stream (entry_at t k).stream (stream_of id)) refl
    where
      go : (b : Bool) → same_stream (entry_at t k).stream (stream_of id) ≡ b → b ≡ false
      go false e = refl
      go true e =
          absurd
          (ne
          (let q : get_or t (ids_at + k) 0 % 4294967296 % 16777216 ≡ get_or t (ids_at + k) 0 % 16777216 = omega arith in
          sym q ∙ other_key (get_or t (ids_at + k) 0 % 4294967296) id named (same-eq (entry_at t k).stream (stream_of id) e)))

  module _ (j : ℕ) (f : Found t count id j) where
    below : Others (stream_of id) (tabulate (entry_at t) 0 j)
    below = others (stream_of id) (entry_at t) 0 j (λ k a b. not_at k (f.before k (omega arith)))

    -- ── it is at place j ──

    module _ (l : j < count) where
      here : same_stream (entry_at t j).stream (stream_of id) ≡ true
      here = rw (at_key j (f.here l)) (same_refl (stream_of id))

      parts : entries_of t ≡ tabulate (entry_at t) 0 j ++ (entry_at t j ∷ tabulate (entry_at t) (suc j) (count - suc j))
      unfolding entries_of
      parts = split (entry_at t) j count l

      pub known-state : (s : Brief) → state_of s (stream_of id) (entries_of t) ≡ brief_in (kept_at t j)
      unfolding state_of
      known-state s = ap (state_of s (stream_of id)) parts ∙ skip-state (stream_of id) s (tabulate (entry_at t) 0 j) _ below ∙ rw here

      pub known-count : length (add (stream_of id) (streams (entries_of t))) ≡ count
      unfolding streams add
      known-count =
          ap (λ (es : List (Entry Brief)). length (add (stream_of id) (streams es))) parts
          ∙ skip-add (stream_of id) (tabulate (entry_at t) 0 j) _ below
          ∙ (rw here
          (let a = length-tabulate (entry_at t) 0 j in
          let b = streams-length (tabulate (entry_at t) (suc j) (count - suc j)) ∙ length-tabulate (entry_at t) (suc j) (count - suc j) in
          omega arith))

      pub known-put : (k : Kept) (t' : List ℕ) → Table t → Stored t j count k t' → k.id ≡ id → entries_of t' ≡ put (stream_of id) (brief_in k) (entries_of t)
      unfolding put entries_of
      known-put k t' ok st e =
          ap (tabulate (entry_at t') 0) st.count
          ∙ split (entry_at t') j count l
          ∙ (λ i.
          tab-same (entry_at t') (entry_at t) j 0 (λ k a b. same_at k (omega arith) (λ q. omega arith)) i
          ++ (placed i ∷ tab-same (entry_at t') (entry_at t) (count - suc j) (suc j) (λ k a b. same_at k (omega arith) (λ q. omega arith)) i))
          ∙ sym (ap (put (stream_of id) (brief_in k)) parts ∙ skip-put (stream_of id) (brief_in k) (tabulate (entry_at t) 0 j) _ below ∙ rw here)
        where
          same_at : (i : ℕ) → i < streams_max → (i ≡ j → ⊥) → entry_at t' i ≡ entry_at t i
          same_at i a b = ap entry_of (st.others i a b)

          placed : entry_at t' j ≡ record { stream = (entry_at t j).stream; state = brief_in k }
          placed = ap entry_of st.here ∙ (λ i. record { stream = (ap stream_of e ∙ sym (at_key j (f.here l))) i; state = brief_in k })

    -- ── it is at no place ──

    module _ (l : count ≤ j) where
      all_others : Others (stream_of id) (entries_of t)
      unfolding entries_of
      all_others = rw (let q : count ≡ j = omega (arith, f.within) in q) below

      pub new-state : (s : Brief) → state_of s (stream_of id) (entries_of t) ≡ s
      unfolding state_of
      new-state s = ap (state_of s (stream_of id)) (sym (append-nil (entries_of t))) ∙ skip-state (stream_of id) s (entries_of t) [] all_others

      pub new-count : length (add (stream_of id) (streams (entries_of t))) ≡ count + 1
      unfolding add streams entries_of
      new-count =
          ap (λ (es : List (Entry Brief)). length (add (stream_of id) (streams es))) (sym (append-nil (entries_of t)))
          ∙ skip-add (stream_of id) (entries_of t) [] all_others
          ∙ ap (λ (n : ℕ). n + 1) (length-tabulate (entry_at t) 0 count)

      pub new-put : (k : Kept) (t' : List ℕ) → count < streams_max → Stored t count (count + 1) k t' → k.id ≡ id
          → entries_of t' ≡ put (stream_of id) (brief_in k) (entries_of t)
      unfolding put entries_of
      new-put k t' few st e =
          ap (tabulate (entry_at t') 0) (st.count ∙ add-one count)
          ∙ tab-snoc (entry_at t') 0 count
          ∙ (λ i. tab-same (entry_at t') (entry_at t) count 0 (λ k a b. ap entry_of (st.others k (omega arith) (λ q. omega arith))) i ++ (placed i ∷ []))
          ∙ sym (ap (put (stream_of id) (brief_in k)) (sym (append-nil (entries_of t))) ∙ skip-put (stream_of id) (brief_in k) (entries_of t) [] all_others)
        where
          placed : entry_at t' (0 + count) ≡ record { stream = stream_of id; state = brief_in k }
          placed =
              ap (entry_at t') (let q : 0 + count ≡ count = omega arith in q) ∙ ap entry_of st.here
              ∙ (λ i. record { stream = stream_of (e i); state = brief_in k })
