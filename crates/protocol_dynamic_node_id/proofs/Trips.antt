-- The return trip of Allocation.
use mathlib.Core.Path.{refl}
use lib.Dec.{lit≤}
use Rattle.shape.proofs.RoundTrip.{whole_same}
use Rattle.shape.proofs.Tails.{never-25}
use Rattle.shape.proofs.Trip.{trips}
use Rattle.protocol_dynamic_node_id.specs.Laws.{Laws, allocation_found}
use Rattle.protocol_dynamic_node_id.specs.Allocation.{allocation, allocation_of}
use Rattle.protocol_dynamic_node_id.proofs.AllocationFacts.{only}

pub laws : Laws
laws =
    record {
      allocations = trips allocation (lit≤ tt) allocation_of allocation_found only;
      whole-allocation = whole_same allocation tt;
      never-25 = never-25 allocation (refl, refl);
    }
