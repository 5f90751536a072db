-- The least set that holds what it starts from and is closed under steps.
use Rattle.std.specs.Prelude.{ℕ}

pub data Least (Starts : ℕ → Type 0) (Step : ℕ → ℕ → Type 0) : ℕ → Type 0 where
  First : {p : ℕ} → Starts p → Least Starts Step p
  Onward : {p q : ℕ} → Least Starts Step p → Step p q → Least Starts Step q
