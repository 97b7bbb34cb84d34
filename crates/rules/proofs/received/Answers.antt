use Rattle.rules.proofs.Ways.{received_introduction, received_left, received_right}
use Rattle.rules.proofs.received.Goals as goal

pub returns-in-Introduction : goal.returns-in-Introduction
returns-in-Introduction c = search received_introduction

pub returns-in-RemoveLeft : goal.returns-in-RemoveLeft
returns-in-RemoveLeft c = search received_left

pub returns-in-RemoveRight : goal.returns-in-RemoveRight
returns-in-RemoveRight c = search received_right
