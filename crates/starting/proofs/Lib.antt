-- in reading order
pub mod StartLaws  -- starting cells, over the front of others and place by place
pub mod Beginning  -- the state that a run begins with
pub mod Begin  -- starting cells code the beginning
pub mod Exact  -- a start is carried out exactly when the file is read and the cells are enough
pub mod Theorems  -- the claims
