-- `file_lines::scan::byte_at` meets its contract: what the slice has at the place, or nothing past its end.
use mathlib.Core.Path.{◌≡◌, refl, ◌∙◌}
use Prim.Native.Nat.{ℕ}
use native.Mathlib.Omega.{arith}
use denote.Bor.{Bor}
use Rattle.std.specs.Option.{option_copied, option_map, unwrap_or}
use Rattle.std.specs.Prelude.{Option, None, Some}
use Rattle.darts.specs.Scan.{byte_at}
use Rattle.file_lines.specs.Found.{byte_of}
use Rattle.file_lines.proofs.scan.byte_at.Goals as goal

copied_or : (r : Option (Bor ℕ)) → byte_of (option_copied r) ≡ unwrap_or (option_map (λ (x : Bor ℕ). x.now) r) 256
copied_or None = refl
copied_or (Some x) = refl

pub returns : goal.returns
unfolding byte_at
returns c = rw c.copied.ensures (copied_or c.get.result ∙ c.get.ensures.lookup.4 (omega arith) 256)
