mod ToldOrder
