use Rattle.std.specs.Prelude.{ℕ, ◌≤◌}

-- numbers of workers, of groups and of frames in a block that a run takes
abbrev pub AreInRange : ℕ → ℕ → ℕ → Type 0
AreInRange workers groups block =
    ((1 ≤ workers) × (workers ≤ 64)) × ((1 ≤ groups) × (groups ≤ 1024)) × ((1 ≤ block) × (block ≤ 1048576))
