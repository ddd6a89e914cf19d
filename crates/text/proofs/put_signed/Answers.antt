-- `text::put_signed` meets its contract: there is room in the 21 bytes for the sign and the digits, which are then put as one.
use Rattle.text.proofs.Signs.{spelt_room}
use Rattle.text.proofs.put_signed.Goals as goal

pub slice_bounds-spelt-end : goal.slice_bounds-spelt-end
slice_bounds-spelt-end c = spelt_room _ _ _ _ _ c.put_decimal-end.ensures c.put-sign.ensures c.magnitude.type_inv
