-- The return trips of NodeStatus and GetNodeInfo.
use mathlib.Core.Path.{◌≡◌, refl, sym, ap, ◌∙◌}
use mathlib.Core.Bool.{Bool}
use mathlib.Core.List.{List, ◌++◌, append_assoc}
use Prim.Native.Nat.{ℕ, ◌+◌}
use lib.Dec.{lit≤}
use lib.ListN.{length, take, drop, take-append-drop}
use lib.Seq.{drop-drop, take-add}
use Rattle.bits.specs.Order.{unpack, bytes, to_bits, store}
use Rattle.bits.specs.Width.{width_in, width_of}
use Rattle.bits.proofs.Numbers.{length-to_bits}
use Rattle.shape.specs.Shape.{Shape, end, clear, cleared}
use Rattle.shape.specs.Laws.{Whole}
use Rattle.shape.proofs.RoundTrip.{clear-same}
use Rattle.shape.proofs.Tails.{never-25}
use Rattle.shape.proofs.Trip.{trips}
use Rattle.protocol.specs.Laws.{Laws, status_found, response_found}
use Rattle.protocol.specs.NodeStatus.{status_then, node_status, status_of}
use Rattle.protocol.specs.GetNodeInfoRequest.{request}
use Rattle.protocol.specs.GetNodeInfoResponse.{versions_then, lists, response, response_of}
use Rattle.protocol.proofs.NodeStatusFacts as status
use Rattle.protocol.proofs.ResponseReadFacts as responses

-- a status in front: three of its bits are cleared
clear-status : (d : Shape) → Whole d → (bs : List Bool) → clear (status_then d) bs ≡ take 37 bs ++ (to_bits 3 0 ++ drop 40 bs)
unfolding clear
clear-status d h bs =
    rw (clear-same d h, drop-drop 2 32 bs, drop-drop 3 34 bs, drop-drop 3 37 bs, take-append-drop 16 (drop 40 bs))
    (sym (ap (λ (l : List Bool). l ++ (to_bits 3 0 ++ drop 40 bs)) (take-add 34 3 bs ∙ ap (λ (l : List Bool). l ++ take 3 (drop 34 bs)) (take-add 32 2 bs))
    ∙ append_assoc (take 32 bs ++ take 2 (drop 32 bs)) (take 3 (drop 34 bs)) (to_bits 3 0 ++ drop 40 bs)
    ∙ append_assoc (take 32 bs) (take 2 (drop 32 bs)) (take 3 (drop 34 bs) ++ (to_bits 3 0 ++ drop 40 bs))))

cleared-status : (d : Shape) → Whole d → (p : List ℕ) → cleared (status_then d) p ≡ store p 37 (to_bits 3 0)
unfolding store
cleared-status d h p =
    ap (λ (b : List Bool). bytes (length p) b) (clear-status d h (unpack p))
    ∙ ap (λ (n : ℕ). bytes (length p) (take 37 (unpack p) ++ (to_bits 3 0 ++ drop (37 + n) (unpack p)))) (sym (length-to_bits 3 0))

pub laws : Laws
unfolding width_of width_in
laws =
    record {
      status = trips node_status tt (status_of end) status_found (λ p o. status.only p);
      requests = trips request tt (λ v. v) (λ p. tt) (λ p o v e. refl);
      responses = trips response (lit≤ tt) response_of response_found responses.only;
      status-kept = cleared-status end tt;
      response-kept = cleared-status (versions_then lists) tt;
      never-25 = (never-25 node_status refl, (never-25 request refl, never-25 response (refl, (refl, refl))));
    }
