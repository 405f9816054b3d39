-- The code's leases as the rules see them.
use Rattle.std.specs.Prelude.{ℕ, List, map, Option, ◌==◌, find}
use Rattle.std.specs.Option.{option_map}
use Rattle.stage.specs.Stages.{ranks}
use Rattle.lease.specs.declared.lease.Lease.{Lease}
use Rattle.lease.specs.Leases as rules

-- a lease, its stages by number
abbrev pub lease_of : Lease → rules.Lease
lease_of l = record { office = l.office; stages = ranks l.stages; since = l.since }

-- a book of leases, the newest first
abbrev pub book_of : List Lease → List rules.Lease
book_of ls = map lease_of ls

-- the stages of an office's newest lease
abbrev pub newest_of : (office : ℕ) → List rules.Lease → Option (List ℕ)
newest_of o ls = option_map (λ l. l.stages) (find (λ l. l.office == o) ls)
