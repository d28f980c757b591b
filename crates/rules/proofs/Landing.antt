-- A session at a place: where the step leaves it, and that it answers as the session alone would, but for 26.
use mathlib.Core.Path.{◌≡◌, refl, sym, ap, ◌∙◌, subst}
use mathlib.Core.Logic.{◌⊎◌, inl, inr}
use mathlib.Core.Bool.{Bool, true, false}
use mathlib.Core.List.{List, [], ◌∷◌, ◌++◌, map}
use mathlib.Core.Option.{Option, none, some}
use Prim.Native.Nat.{ℕ, ◌<◌}
use native.Mathlib.Omega.{arith}
use lib.ListN.{length, get_or, set, length-set, length-map, get_or-map}
use lib.Seq.{get_or-set_same}
use Rattle.rules.specs.Answer.{Answer, no_block}
use Rattle.rules.specs.Blocks.{keeps, free_block, stale, relieved, cleared, asks}
use Rattle.rules.specs.Check.{Parsed}
use Rattle.rules.specs.Condition3.{keep}
use Rattle.rules.specs.Frame.{Stream, same_stream}
use Rattle.rules.specs.Reception.{Step, step_block, step_ask, step_at}
use Rattle.rules.specs.Session.{Session, closed, since_of, proceed}
use Rattle.rules.specs.Table.{Place, empty, held, Places, holds}
use Rattle.rules.specs.Tests.{pick, is_none}
use Rattle.rules.proofs.Table.{same_refl, sessions_of, AtMostOne, Sole, only, sole-store}

-- ── the table that a block is taken from ──

abbrev pub relief : ℕ → Session → Session
relief t s = pick (stale t s) (closed s s.since) s

keep-map : (b : Bool) (t : ℕ) (s : Session) (l : List Session) → keep b (relief t s) (map (relief t) l) ≡ map (relief t) (keep b s l)
keep-map true t s l = refl
keep-map false t s l = refl

sessions-relieved : (d : Stream) (t : ℕ) (ps : Places) → sessions_of d (map (relieved t) ps) ≡ map (relief t) (sessions_of d ps)
unfolding sessions_of
sessions-relieved d t [] = refl
sessions-relieved d t (empty ∷ ps) = sessions-relieved d t ps
sessions-relieved d t (held e s bs ∷ ps) =
    go (stale t s) ∙ ap (λ l. keep (same_stream e d) (relief t s) l) (sessions-relieved d t ps) ∙ keep-map (same_stream e d) t s (sessions_of d ps)
  where
    go : (b : Bool) → sessions_of d (pick b (held e (closed s s.since) []) (held e s bs) ∷ map (relieved t) ps)
        ≡ keep (same_stream e d) (pick b (closed s s.since) s) (sessions_of d (map (relieved t) ps))
    go true = refl
    go false = refl

at-most-map : (t : ℕ) (l : List Session) → AtMostOne l → AtMostOne (map (relief t) l)
at-most-map t [] h = tt
at-most-map t (x ∷ []) h = tt
at-most-map t (x ∷ y ∷ l) h = absurd h

-- as it was, or all old sessions with bytes in hand emptied
pub data Cleared (t : ℕ) (ps qs : Places) : Type 0 where
  untouched : qs ≡ ps → Cleared t ps qs
  eased : qs ≡ map (relieved t) ps → Cleared t ps qs

pub clearing : (t : ℕ) (ps : Places) → Cleared t ps (cleared t ps)
unfolding cleared
clearing t ps = go (is_none (free_block ps))
  where
    go : (b : Bool) → Cleared t ps (pick b (map (relieved t) ps) ps)
    go true = eased refl
    go false = untouched refl

pub sessions-eased : (d : Stream) (t : ℕ) (ps qs : Places) → qs ≡ map (relieved t) ps → sessions_of d qs ≡ map (relief t) (sessions_of d ps)
sessions-eased d t ps qs e = ap (sessions_of d) e ∙ sessions-relieved d t ps

sole-cleared : {t : ℕ} {ps qs : Places} → Cleared t ps qs → Sole ps → Sole qs
unfolding Sole
sole-cleared {ps = ps} (untouched e) h d = subst (λ k. AtMostOne (sessions_of d k)) (sym e) (h d)
sole-cleared {t} {ps} {qs} (eased e) h d = subst AtMostOne (sym (sessions-eased d t ps qs e)) (at-most-map t (sessions_of d ps) (h d))

pub length-cleared : {t : ℕ} {ps qs : Places} → Cleared t ps qs → length qs ≡ length ps
length-cleared (untouched e) = ap length e
length-cleared {t} {ps} (eased e) = ap length e ∙ length-map ps (relieved t)

relieved-holds : (d : Stream) (t : ℕ) (p : Place) → holds d (relieved t p) ≡ holds d p
relieved-holds d t empty = refl
relieved-holds d t (held e s bs) = go (stale t s)
  where
    go : (b : Bool) → holds d (pick b (held e (closed s s.since) []) (held e s bs)) ≡ same_stream e d
    go true = refl
    go false = refl

holds-cleared : {t : ℕ} {ps qs : Places} (d : Stream) (i : ℕ) → Cleared t ps qs → holds d (get_or qs i empty) ≡ holds d (get_or ps i empty)
holds-cleared d i (untouched e) = ap (λ k. holds d (get_or k i empty)) e
holds-cleared {t} {ps} d i (eased e) =
    ap (λ k. holds d (get_or k i empty)) e ∙ ap (holds d) (get_or-map (relieved t) ps i empty) ∙ relieved-holds d t (get_or ps i empty)

-- ── where the step leaves the session ──

module _ (ps : Places) (i : ℕ) (s : Session) (bs : List ℕ) (v : Parsed) where
  abbrev pub put : Places
  put = set ps i (held v.stream s bs)

  pub record Landed (r : Step) : Type 0 where
    pub session : Session
    pub blocks : List ℕ
    pub table : Places
    pub clear : Cleared v.time put table
    pub is : r.places ≡ set table i (held v.stream session blocks)
    -- the session ended, or is as the session alone leaves it; but for 26 it is, and so is the answer
    pub either : (session ≡ closed s (since_of s v)) ⊎ (session ≡ (proceed s v).session)
    pub agrees : (r.answer ≡ no_block → ⊥) → (r.answer ≡ (proceed s v).answer) × (session ≡ (proceed s v).session)

  pub landed : Landed (step_at ps i s bs v)
  unfolding step_at step_ask step_block
  landed = ask (asks s bs v)
    where
      block : (o : Option ℕ) → Landed (step_block o (cleared v.time put) i s bs v)
      block none =
          record {
            session = closed s (since_of s v);
            blocks = keeps (closed s (since_of s v)) bs;
            table = cleared v.time put;
            clear = clearing v.time put;
            is = refl;
            either = inl refl;
            agrees = λ n. absurd (n refl);
          }
      block (some b) =
          record {
            session = (proceed s v).session;
            blocks = keeps (proceed s v).session (bs ++ (b ∷ []));
            table = cleared v.time put;
            clear = clearing v.time put;
            is = refl;
            either = inr refl;
            agrees = λ n. (refl, refl);
          }

      ask : (b : Bool) → Landed (step_ask b put i s bs v)
      ask false =
          record {
            session = (proceed s v).session;
            blocks = keeps (proceed s v).session bs;
            table = put;
            clear = untouched refl;
            is = refl;
            either = inr refl;
            agrees = λ n. (refl, refl);
          }
      ask true = block (free_block (cleared v.time put))

  -- the answer is that of the session alone, or 26
  pub answer_at : (P : Answer → Type 0) → P no_block → P (proceed s v).answer → P (step_at ps i s bs v).answer
  unfolding step_at step_ask step_block
  answer_at P n p = ask (asks s bs v)
    where
      block : (o : Option ℕ) → P (step_block o (cleared v.time put) i s bs v).answer
      block none = n
      block (some b) = p

      ask : (b : Bool) → P (step_ask b put i s bs v).answer
      ask false = p
      ask true = block (free_block (cleared v.time put))

  module _ (inside : i < length ps) where
    pub inside-in : {qs : Places} → Cleared v.time put qs → i < length qs
    inside-in c = omega (arith, length-cleared c, length-set ps i (held v.stream s bs), inside)

    pub holds-in : {qs : Places} → Cleared v.time put qs → holds v.stream (get_or qs i empty) ≡ true
    holds-in c = holds-cleared v.stream i c ∙ ap (holds v.stream) (get_or-set_same ps i (held v.stream s bs) empty inside) ∙ same_refl v.stream

    module _ (mine : (holds v.stream (get_or ps i empty) ≡ true) ⊎ (sessions_of v.stream ps ≡ [])) (sole : Sole ps) where
      pub sole-in : {qs : Places} → Cleared v.time put qs → Sole qs
      sole-in c = sole-cleared c (sole-store ps i v.stream s bs inside mine sole)

      pub session-at : sessions_of v.stream (step_at ps i s bs v).places ≡ landed.session ∷ []
      unfolding Sole
      session-at =
          let l = landed in
          ap (sessions_of v.stream) l.is
          ∙ (only v.stream l.table i (record { inside = inside-in l.clear; passes = holds-in l.clear }) (sole-in l.clear v.stream)).stored
          l.session l.blocks

      pub sole-at : Sole (step_at ps i s bs v).places
      sole-at =
          let l = landed in
          rw l.is
          (sole-store l.table i v.stream l.session l.blocks (inside-in l.clear) (inl (holds-in l.clear)) (sole-in l.clear))
