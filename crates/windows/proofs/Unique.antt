-- What a window holds without a match is fixed. Assumes nothing.
use Rattle.std.proofs.Common.{◌≡◌, ℕ, ◌+◌, ◌%◌, ◌^◌, ◌<◌, cond, arith}
use Rattle.windows.specs.Windows.{in_window}

-- any two results of `windows::Window::without` are equal, since both are of 32 bits
pub without_one : (b at q : ℕ) {held r s : ℕ} → (r + cond (in_window b at q) 1 0) % 2 ^ 32 ≡ held → (s + cond (in_window b at q) 1 0) % 2 ^ 32 ≡ held
    → r < 2 ^ 32 → s < 2 ^ 32 → r ≡ s
without_one b at q e f h g = omega arith
