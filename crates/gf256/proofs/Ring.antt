-- The laws of the field, as other crates import them. `simp ring` sorts sums and products and cancels equal terms.
pub use Rattle.gf256.proofs.Xor.{add_assoc, add_comm, add_left_comm, add-zero, zero-add, add_self}
pub use Rattle.gf256.proofs.Xor.{add_self_left, add_lt}
pub use Rattle.gf256.proofs.Product.{mul_assoc, mul_comm, mul_left_comm, mul-zero, zero-mul, one-mul, mul-one}
pub use Rattle.gf256.proofs.Product.{mul-add, add-mul, mul_lt, low_left, low_right, double_two}
pub use Rattle.gf256.proofs.Product.{double_add}
pub use Rattle.gf256.proofs.Byte.{mul_bit, mul_turn}
pub use Rattle.gf256.proofs.Powers.{inverse_lt, mul_inverse}

pub ruleset sums = (add_assoc, add_comm, add_left_comm, add-zero, zero-add, add_self, add_self_left)

pub ruleset ring = (sums, mul_assoc, mul_comm, mul_left_comm, mul-zero, zero-mul, one-mul, mul-one, mul-add, add-mul)
